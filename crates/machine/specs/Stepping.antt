-- "A step names a vertex. A released one is started. An executing one does the next command of the item at its place." What is due there is
-- told first, and then done. A step is of an edition, whose table of commands it goes by (note 10).
use Rattle.std.specs.Prelude.{ℕ, zero, suc, ◌+◌, ◌-◌, Bool, true, false, not, cond, List, [], ◌∷◌, eqb, ltb, length, take}
use Rattle.std.proofs.Math.Option.{Option, none, some}
use Rattle.graph.specs.Tests.{both}
use Rattle.graph.specs.Tables.{Lent, NEW, RELEASED, FINISHED, place_word, scope_word, phase_word, made_word, future_word, vertex_word, set_vertex_word}
use Rattle.refusal.specs.Refusals.{no_such_vertex, vertex_is_new, vertex_is_finished, unsound_tables, nothing_starts}
use Rattle.graph.specs.Answers as of_graph
use Rattle.graph.specs.Sound.{tally_fits, sound}
use Rattle.graph.specs.Commands.{is_made, has_status, command}
use Rattle.graph.specs.declared.Command as single
use Rattle.graph.specs.declared.Command.TheVariants.{NewTd, NewEdge, Release, Transfer, Start, Stop, Yield}
use Rattle.graph.specs.Answers.{Outcome}
use Rattle.program.specs.Trees.{jobs, asyncs, finishes, forks, futures, forces}
use Rattle.program.specs.declared.Edition.{Edition}
use Rattle.program.specs.Encodings.{Name, self, own_scope, made_1, made_2, made_3, forced, Spot, first_body, second_body, past_item, last_byte}
use Rattle.program.specs.Encodings.{Command, perform, new_td, new_edge, transfer, release, yield, Row, row_of, weight, makes}
use Rattle.program.specs.Answers as of_program
use Rattle.program.specs.Answers.{Stands}
use Rattle.program.specs.Located.{item_at}
use Rattle.machine.specs.Answers.{StepSaid, refuse, one_step, said_as}

-- "steps 8,192 or more (at a step or run only)"
abbrev pub step_limit : ℕ
step_limit = 8192

-- "12 tally over the used rows, steps 8,192 or more, .."
unfoldable pub steppable : Lent → Bool
steppable s = both (sound s) (ltb s.steps step_limit)

-- "for a step of a released vertex, 12 then looks at the tally and that vertex's row only" (note 6): where the tally is as it must be, and v is
-- a made vertex that is released, a start is due, whatever the other rows hold
unfoldable pub start_due : Lent → ℕ → Bool
start_due s v =
    both (both (tally_fits s.vertices s.edges s.made s.held) (ltb s.steps step_limit))
    (both (is_made s v) (has_status s v RELEASED))

-- The words of a vertex's row.
abbrev pub place : Lent → ℕ → ℕ
place s v = vertex_word s.vertices v place_word

abbrev pub scope : Lent → ℕ → ℕ
scope s v = vertex_word s.vertices v scope_word

abbrev pub phase : Lent → ℕ → ℕ
phase s v = vertex_word s.vertices v phase_word

-- the vertex that the item at hand made as its first (0), second (1) or third (2)
abbrev pub made : Lent → ℕ → ℕ → ℕ
made s v i = vertex_word s.vertices v (made_word + i)

-- "the latest open future" (note 5)
abbrev pub latest : Lent → ℕ → ℕ
latest s v = vertex_word s.vertices v future_word

-- the future that such a word names: "0 is none", and so is what is no made vertex
unfoldable pub open_future : Lent → ℕ → Option ℕ
open_future s t = cond (both (ltb 0 t) (is_made s t)) (some t) none

-- on from the vertex that a word names, if it names one
unfoldable pub further : Option ℕ → (ℕ → Option ℕ) → Option ℕ
further none next = none
further (some t) next = next t

-- "The word of a future's t names the next future out, so a force follows its number of such words."
unfoldable pub followed : Lent → ℕ → ℕ → Option ℕ
followed s v zero = open_future s (latest s v)
followed s v (suc n) = further (open_future s (latest s v)) (λ t. followed s t n)

-- 0 stands for none, and is never used: a name that stands for no vertex is refused before (`all_stand`)
unfoldable pub or_zero : Option ℕ → ℕ
or_zero none = 0
or_zero (some t) = t

-- what a name in an item's command stands for; n is the item's number, where it has one
unfoldable pub named : Lent → ℕ → ℕ → Name → ℕ
named s v n self = v
named s v n own_scope = scope s v
named s v n made_1 = made s v 0
named s v n made_2 = made s v 1
named s v n made_3 = made s v 2
named s v n forced = or_zero (followed s v n)

unfoldable pub is_vertex : Option ℕ → Bool
is_vertex none = false
is_vertex (some t) = true

-- "13 .. is also given at a force's newEdge where the words followed come to 0 or to no made vertex": whether a name stands for a vertex, and
-- each name of a command does. In the table of commands only a force's newEdge has the name `forced`; the other names are not looked at here.
unfoldable pub stands : Lent → ℕ → ℕ → Name → Bool
stands s v n self = true
stands s v n own_scope = true
stands s v n made_1 = true
stands s v n made_2 = true
stands s v n made_3 = true
stands s v n forced = is_vertex (followed s v n)

unfoldable pub all_stand : Lent → ℕ → ℕ → Command → Bool
all_stand s v n perform = true
all_stand s v n (new_td p a) = stands s v n a
all_stand s v n (new_edge a b) = both (stands s v n a) (stands s v n b)
all_stand s v n (transfer a) = stands s v n a
all_stand s v n (release a) = stands s v n a
all_stand s v n yield = true

-- An item, as it stands in the program: the table's row for its kind, its number where it has one, a job's or a force's, and the places of its
-- bodies and past it; or an end byte; or nothing.
pub data Task : Type 0 where
  item : Row → ℕ → (Spot → ℕ) → Task
  ends : Task
  nothing : Task

-- the places of an item
unfoldable pub spots : ℕ → ℕ → ℕ → ℕ → Spot → ℕ
spots first second past last first_body = first
spots first second past last second_body = second
spots first second past last past_item = past
spots first second past last last_byte = last

-- the item in an edition; `last` is the offset of the program's last byte
unfoldable pub task : Edition → ℕ → Stands → Task
task ed last (of_program.job n past) = item (row_of ed jobs) n (spots past past past last)
task ed last (of_program.async body past) = item (row_of ed asyncs) 0 (spots body body past last)
task ed last (of_program.finish body past) = item (row_of ed finishes) 0 (spots body body past last)
task ed last (of_program.fork left right past) = item (row_of ed forks) 0 (spots left right past last)
task ed last (of_program.future body past) = item (row_of ed futures) 0 (spots body body past last)
task ed last (of_program.force n past) = item (row_of ed forces) n (spots past past past last)
task ed last of_program.end = ends
task ed last (of_program.refused n p) = nothing

-- command number n of a list
unfoldable pub nth : List Command → ℕ → Option Command
nth [] n = none
nth (c ∷ cs) zero = some c
nth (c ∷ cs) (suc n) = nth cs n

-- The words of a vertex's row that only its steps move: its place, its phase, the three vertices that this item made, and its latest open
-- future.
pub data Own : Type 0 where
  own : (place phase first second third latest : ℕ) → Own

unfoldable pub own_of : Lent → ℕ → Own
own_of s v = own (place s v) (phase s v) (made s v 0) (made s v 1) (made s v 2) (latest s v)

-- "three vertices that this item made, in order": x is the one behind so many others
unfoldable pub with_made : ℕ → ℕ → Own → Own
with_made zero x (own p φ a b c l) = own p φ x b c l
with_made (suc zero) x (own p φ a b c l) = own p φ a x c l
with_made (suc (suc k)) x (own p φ a b c l) = own p φ a b x l

-- a newTd keeps the vertex x that it made
unfoldable pub with_kept : Command → ℕ → ℕ → Own → Own
with_kept perform k x w = w
with_kept (new_td p a) k x w = with_made k x w
with_kept (new_edge a b) k x w = w
with_kept (transfer a) k x w = w
with_kept (release a) k x w = w
with_kept yield k x w = w

unfoldable pub with_phase : ℕ → Own → Own
with_phase n (own p φ a b c l) = own p n a b c l

-- "An item's last command sets phase and made vertices to 0", and then the vertex goes where the item says. The latest open future is "set to t
-- in the vertex that did the future, at that item's last command".
unfoldable pub own_past_item : Row → (Spot → ℕ) → Own → Own
own_past_item row spot (own p φ a b c l) = own (spot row.next) 0 0 0 0 (cond row.opens a l)

-- What an item's command c makes of these words at the phase φ, "commands of the current item already done": the last one takes the vertex past
-- the item; another one is counted, and a newTd keeps the vertex x that it made.
unfoldable pub moved_on : Row → (Spot → ℕ) → Command → ℕ → ℕ → Own → Own
moved_on row spot c φ x w =
    cond (eqb (suc φ) (length row.commands)) (own_past_item row spot w)
    (with_phase (suc φ) (with_kept c (weight makes (take φ row.commands)) x w))

-- What is due at a step of a vertex: a refusal, before any command; or a job, with its number and offset; or a single command of the
-- calculus. With the last two comes what the vertex's own words are afterwards.
pub data Due : Type 0 where
  refusal_due : ℕ → Due
  job_due : ℕ → ℕ → Own → Due
  command_due : single.Command → Own → Due

-- refused with n unless a test holds
unfoldable pub due_if : Bool → ℕ → Due → Due
due_if true n next = next
due_if false n next = refusal_due n

-- a command of the table, done by v, with its names and places filled in; n is the item's number
unfoldable pub filled_in : Lent → ℕ → ℕ → (Spot → ℕ) → Own → Command → Due
filled_in s v n spot w perform = job_due n (place s v) w
filled_in s v n spot w (new_td p a) = command_due (NewTd v (spot p) (named s v n a)) w
filled_in s v n spot w (new_edge a b) = command_due (NewEdge v (named s v n a) (named s v n b)) w
filled_in s v n spot w (transfer a) = command_due (Transfer v (named s v n a)) w
filled_in s v n spot w (release a) = command_due (Release v (named s v n a)) w
filled_in s v n spot w yield = command_due (Yield v) w

-- "a phase not below that item's commands"; "13 and the command's own": where a name stands for no vertex, 13 comes first
unfoldable pub next_of : Lent → ℕ → Row → ℕ → (Spot → ℕ) → Option Command → Due
next_of s v row n spot none = refusal_due nothing_starts
next_of s v row n spot (some c) =
    due_if (all_stand s v n c) nothing_starts (filled_in s v n spot (moved_on row spot c (phase s v) s.made (own_of s v)) c)

-- "the next command of the item at its place"; "end byte: stop"; "A start or a stop changes no place, phase or made vertex."
unfoldable pub next_at : Lent → ℕ → Task → Due
next_at s v (item row n spot) = next_of s v row n spot (nth row.commands (phase s v))
next_at s v ends = due_if (eqb (phase s v) 0) nothing_starts (command_due (Stop v) (own_of s v))
next_at s v nothing = refusal_due nothing_starts

-- "Step: 12, 20, 22, 23, then 21, or 13 and the command's own": 21 is start's own
unfoldable pub due : Edition → List ℕ → Lent → ℕ → Due
due ed bytes s v =
    cond (start_due s v) (command_due (Start v) (own_of s v))
    (due_if (steppable s) unsound_tables
    (due_if (is_made s v) no_such_vertex
    (due_if (not (has_status s v NEW)) vertex_is_new
    (due_if (not (has_status s v FINISHED)) vertex_is_finished (next_at s v (task ed (length bytes - 1) (item_at ed bytes (place s v))))))))

-- a vertex's own words are stored in its row
unfoldable pub stored : List ℕ → ℕ → Own → List ℕ
stored t v (own p φ a b c l) =
    set_vertex_word
    (set_vertex_word
    (set_vertex_word (set_vertex_word (set_vertex_word (set_vertex_word t v place_word p) v phase_word φ) v made_word a) v (made_word + 1) b)
    v
    (made_word + 2)
    c)
    v
    future_word
    l

abbrev pub with_own : Lent → ℕ → Own → Lent
with_own s v w =
    record { vertices = stored s.vertices v w; edges = s.edges; made = s.made; held = s.held; steps = s.steps }

-- What is due is done. A refusal changes nothing, and neither does a command that is refused. A job, or a command that is taken, leaves v's
-- own words besides, and the step is counted.
abbrev pub do_due : Lent → ℕ → Due → Outcome StepSaid
do_due s v (refusal_due n) = refuse s n 0
do_due s v (job_due n p w) = record { answer = StepSaid.job n p; after = one_step (with_own s v w) }
do_due s v (command_due c w) =
    record {
      answer = said_as (command c s).answer;
      after = cond (of_graph.accepted (command c s).answer) (one_step (with_own (command c s).after v w)) s;
    }

unfoldable pub step : Edition → List ℕ → Lent → ℕ → Outcome StepSaid
step ed bytes s v = do_due s v (due ed bytes s v)
