-- docs/ENGINE.md's "Examples", and examples of the notes of its "Requests that changed the engine": one table over the definitions of the
-- calls. The proof of the table is in proofs/Examples.antt.
use Rattle.std.specs.Prelude.{ℕ, ◌-◌, ◌*◌, ◌≡◌, Bool, true, false, List, [], ◌∷◌, ◌++◌, map, replicate}
use Rattle.std.proofs.Math.Option.{Option, some}
use Rattle.graph.specs.Tables.{Lent, NEW, EXECUTING, vertex_words, edge_words, status_word, phase_word, in_count_word, set_vertex_word}
use Rattle.graph.specs.Answers as of_graph
use Rattle.graph.specs.Commands.{opening, with_edge, command}
use Rattle.graph.specs.declared.Command as single
use Rattle.graph.specs.declared.Command.TheVariants.{NewTd, NewEdge, Release, Transfer, Start, Stop, Yield}
use Rattle.graph.specs.Answers.{Outcome}
use Rattle.program.specs.declared.Edition.{Edition}
use Rattle.program.specs.declared.Edition.TheVariants.{First, Second}
use Rattle.machine.specs.Answers.{StepSaid, start, new, edge, release, transfer, job, stop, yield, refused, LoadingSaid, loaded, refuse_loading}
use Rattle.machine.specs.Loading.{load}
use Rattle.machine.specs.Stepping.{step}
use Rattle.machine.specs.Running.{Ending, done, spent, all_finished, run}
use Rattle.machine.specs.FairOrders.{schedule}

-- An example: calls, and what they are to come to. Those of a program are of an edition.
pub data Example : Type 0 where
  -- loading this program is refused, with this number and place
  refuses : Edition → List ℕ → ℕ → ℕ → Example
  -- this program loads, and its run is done after so many steps, the last of them a stop
  takes : Edition → List ℕ → ℕ → Example
  -- this program loads, and its run with this budget is spent, and its last step says this
  comes : Edition → List ℕ → ℕ → StepSaid → Example
  -- this program loads, steps that name these vertices say this, one after the other, and then all are finished
  goes : Edition → List ℕ → List (ℕ × StepSaid) → Example
  -- this program loads, and the schedule for this order of its jobs, by their offsets, names these vertices
  schedules : Edition → List ℕ → List ℕ → List ℕ → Example
  -- this program loads and takes steps of these vertices, then the host writes this edge into its table and counts it, and steps that
  -- name these vertices say this, one after the other, and then all are finished
  altered : Edition → List ℕ → List ℕ → ℕ × ℕ → List (ℕ × StepSaid) → Example
  -- this program loads, the host writes into a vertex's row, into this word, this number, and steps that name these vertices say this, one
  -- after the other; then all are finished, or not
  rewritten : Edition → List ℕ → ℕ × ℕ × ℕ → List (ℕ × StepSaid) → Bool → Example
  -- the bare machine opens, and these commands say this, one after the other
  bare : List (single.Command × of_graph.CommandSaid) → Example
  -- on these tables these commands say this, one after the other, and leave everything as it was
  keeps : Lent → List (single.Command × of_graph.CommandSaid) → Example

-- what is lent: five vertex rows and four edge rows, where anything stands
unfoldable pub anything : Lent
anything =
    record { vertices = replicate (vertex_words * 5) 9; edges = replicate (edge_words * 4) 9; made = 7; held = 7; steps = 7 }

-- three vertices, the first executing and the others new, and a full table of edges: from 1 to 2, from 2 to 1 and from 2 to 2
unfoldable pub cycle_lent : Lent
cycle_lent =
    record {
      vertices = EXECUTING ∷ replicate (vertex_words - 1) 0 ++ NEW ∷ replicate (vertex_words - 1) 0 ++ NEW ∷ replicate (vertex_words - 1) 0;
      edges = 1 ∷ 2 ∷ 2 ∷ 1 ∷ 2 ∷ 2 ∷ [];
      made = 3;
      held = 3;
      steps = 0;
    }

-- more than any example takes
abbrev pub enough : ℕ
enough = 100

-- what steps naming these vertices say, and what the last of them leaves
unfoldable pub said_by : Edition → List ℕ → Lent → List ℕ → List StepSaid
said_by ed bytes s [] = []
said_by ed bytes s (v ∷ vs) = (step ed bytes s v).answer ∷ said_by ed bytes (step ed bytes s v).after vs

unfoldable pub left_by : Edition → List ℕ → Lent → List ℕ → Lent
left_by ed bytes s [] = s
left_by ed bytes s (v ∷ vs) = left_by ed bytes (step ed bytes s v).after vs

-- a loading, the steps after it that name these vertices, and one edge more in the table
unfoldable pub edge_written : Edition → List ℕ → List ℕ → ℕ × ℕ → Outcome LoadingSaid → Outcome LoadingSaid
edge_written ed bytes vs ends o = record { answer = o.answer; after = with_edge (left_by ed bytes o.after vs) ends.0 ends.1 }

-- a loading, and another number in a word of a vertex's row
unfoldable pub word_written : ℕ × ℕ × ℕ → Outcome LoadingSaid → Outcome LoadingSaid
word_written (v, w, x) o =
    record {
      answer = o.answer;
      after =
          record {
            vertices = set_vertex_word o.after.vertices v w x;
            edges = o.after.edges;
            made = o.after.made;
            held = o.after.held;
            steps = o.after.steps;
          };
    }

-- what single commands say, and what the last of them leaves
unfoldable pub said_bare : Lent → List single.Command → List of_graph.CommandSaid
said_bare s [] = []
said_bare s (c ∷ cs) = (command c s).answer ∷ said_bare (command c s).after cs

unfoldable pub left_bare : Lent → List single.Command → Lent
left_bare s [] = s
left_bare s (c ∷ cs) = left_bare (command c s).after cs

-- the calls of a list of calls and answers, and the answers
abbrev pub firsts : {A B : Type 0} → List (A × B) → List A
firsts l = map (λ x. x.0) l

abbrev pub seconds : {A B : Type 0} → List (A × B) → List B
seconds l = map (λ x. x.1) l

-- What the calls of an example come to: loading's answer, then the run's ending, last step and number of steps; or what the steps say,
-- and whether all are finished then; or which vertices are named; or the opening's answer and what the commands say; or what commands say and leave.
pub data Result : Type 0 where
  ran : LoadingSaid → Ending → Option StepSaid → ℕ → Result
  stepped : LoadingSaid → List StepSaid → Bool → Result
  scheduled : LoadingSaid → List ℕ → Result
  commanded : of_graph.OpeningSaid → List of_graph.CommandSaid → Result
  left : List of_graph.CommandSaid → Lent → Result

-- a run of a program that was loaded; steps of it; its schedule for an order; commands after the opening, and on tables as they are lent
unfoldable pub runs : Edition → List ℕ → ℕ → Outcome LoadingSaid → Result
runs ed p budget o =
    ran o.answer (run ed p o.after budget).ending (run ed p o.after budget).last (run ed p o.after budget).taken

unfoldable pub takes_steps : Edition → List ℕ → List ℕ → Outcome LoadingSaid → Result
takes_steps ed p vs o = stepped o.answer (said_by ed p o.after vs) (all_finished (left_by ed p o.after vs))

unfoldable pub names_in_turn : Edition → List ℕ → List ℕ → Outcome LoadingSaid → Result
names_in_turn ed p order o = scheduled o.answer (schedule ed p enough o.after order)

unfoldable pub commands : List single.Command → Outcome of_graph.OpeningSaid → Result
commands cs o = commanded o.answer (said_bare o.after cs)

unfoldable pub commands_on : List single.Command → Lent → Result
commands_on cs s = left (said_bare s cs) (left_bare s cs)

-- that an example holds is an equation
abbrev pub ComesTrue : Example → Type 0
ComesTrue (refuses ed p n q) = load ed p anything ≡ refuse_loading anything n q
ComesTrue (takes ed p n) = runs ed p enough (load ed p anything) ≡ ran loaded done (some stop) n
ComesTrue (comes ed p n said) = runs ed p n (load ed p anything) ≡ ran loaded spent (some said) n
ComesTrue (goes ed p turns) = takes_steps ed p (firsts turns) (load ed p anything) ≡ stepped loaded (seconds turns) true
ComesTrue (schedules ed p order vs) = names_in_turn ed p order (load ed p anything) ≡ scheduled loaded vs
ComesTrue (altered ed p vs ends turns) =
    takes_steps ed p (firsts turns) (edge_written ed p vs ends (load ed p anything)) ≡ stepped loaded (seconds turns) true
ComesTrue (rewritten ed p at turns all) =
    takes_steps ed p (firsts turns) (word_written at (load ed p anything)) ≡ stepped loaded (seconds turns) all
ComesTrue (bare calls) = commands (firsts calls) (opening anything) ≡ commanded of_graph.opened (seconds calls)
ComesTrue (keeps s calls) = commands_on (firsts calls) s ≡ left (seconds calls) s

-- "Bench examples (hexadecimal; * proved)"
abbrev pub table : List Example
table =
    -- "`00`: 4 steps"
    takes First (0x00 ∷ []) 4
    -- "`01 00 00`: 5"
    ∷ takes First (0x01 ∷ 0x00 ∷ 0x00 ∷ []) 5
    -- "`02 01 01 00 01 02 00`: 11, jobs in either order"
    ∷ takes First (0x02 ∷ 0x01 ∷ 0x01 ∷ 0x00 ∷ 0x01 ∷ 0x02 ∷ 0x00 ∷ []) 11
    ∷ goes First (0x02 ∷ 0x01 ∷ 0x01 ∷ 0x00 ∷ 0x01 ∷ 0x02 ∷ 0x00 ∷ [])
    ((0, start)
    ∷ (0, new 2)
    ∷ (0, edge 2 1)
    ∷ (0, release 2)
    ∷ (0, job 2 4)
    ∷ (0, stop)
    ∷ (2, start)
    ∷ (2, job 1 1)
    ∷ (2, stop)
    ∷ (1, start)
    ∷ (1, stop)
    ∷ [])
    ∷ goes First (0x02 ∷ 0x01 ∷ 0x01 ∷ 0x00 ∷ 0x01 ∷ 0x02 ∷ 0x00 ∷ [])
    ((0, start)
    ∷ (0, new 2)
    ∷ (0, edge 2 1)
    ∷ (0, release 2)
    ∷ (2, start)
    ∷ (2, job 1 1)
    ∷ (2, stop)
    ∷ (0, job 2 4)
    ∷ (0, stop)
    ∷ (1, start)
    ∷ (1, stop)
    ∷ [])
    -- "`04 01 01 00 01 02 00 01 03 00`: 22, job 3 last": its vertex 4 is refused until both branches are finished
    ∷ takes First (0x04 ∷ 0x01 ∷ 0x01 ∷ 0x00 ∷ 0x01 ∷ 0x02 ∷ 0x00 ∷ 0x01 ∷ 0x03 ∷ 0x00 ∷ []) 22
    ∷ goes First (0x04 ∷ 0x01 ∷ 0x01 ∷ 0x00 ∷ 0x01 ∷ 0x02 ∷ 0x00 ∷ 0x01 ∷ 0x03 ∷ 0x00 ∷ [])
    ((0, start)
    ∷ (0, new 2)
    ∷ (0, new 3)
    ∷ (0, new 4)
    ∷ (0, edge 2 4)
    ∷ (0, edge 3 4)
    ∷ (0, transfer 4)
    ∷ (0, release 4)
    ∷ (4, refused 21 0)
    ∷ (0, release 2)
    ∷ (0, release 3)
    ∷ (0, stop)
    ∷ (3, start)
    ∷ (3, job 2 4)
    ∷ (3, stop)
    ∷ (4, refused 21 0)
    ∷ (2, start)
    ∷ (2, job 1 1)
    ∷ (2, stop)
    ∷ (4, start)
    ∷ (4, job 3 7)
    ∷ (4, stop)
    ∷ (1, start)
    ∷ (1, stop)
    ∷ [])
    -- "In the new edition a fork is ..; the vertex starts again"; "It .. costs 12 steps in place of 15" (note 10): the same program in the second
    -- edition, 19 steps, job 3 last; vertex 0 is refused until both branches are finished
    ∷ takes Second (0x04 ∷ 0x01 ∷ 0x01 ∷ 0x00 ∷ 0x01 ∷ 0x02 ∷ 0x00 ∷ 0x01 ∷ 0x03 ∷ 0x00 ∷ []) 19
    ∷ goes Second (0x04 ∷ 0x01 ∷ 0x01 ∷ 0x00 ∷ 0x01 ∷ 0x02 ∷ 0x00 ∷ 0x01 ∷ 0x03 ∷ 0x00 ∷ [])
    ((0, start)
    ∷ (0, new 2)
    ∷ (0, new 3)
    ∷ (0, edge 2 0)
    ∷ (0, edge 3 0)
    ∷ (0, release 2)
    ∷ (0, release 3)
    ∷ (3, start)
    ∷ (0, yield)
    ∷ (0, refused 21 0)
    ∷ (3, job 2 4)
    ∷ (3, stop)
    ∷ (0, refused 21 0)
    ∷ (2, start)
    ∷ (2, job 1 1)
    ∷ (2, stop)
    ∷ (0, start)
    ∷ (0, job 3 7)
    ∷ (0, stop)
    ∷ (1, start)
    ∷ (1, stop)
    ∷ [])
    -- the branches of a fork may be finished before its vertex yields, which then starts again at once
    ∷ goes Second (0x04 ∷ 0x00 ∷ 0x00 ∷ 0x00 ∷ [])
    ((0, start)
    ∷ (0, new 2)
    ∷ (0, new 3)
    ∷ (0, edge 2 0)
    ∷ (0, edge 3 0)
    ∷ (0, release 2)
    ∷ (0, release 3)
    ∷ (2, start)
    ∷ (2, stop)
    ∷ (3, start)
    ∷ (3, stop)
    ∷ (0, yield)
    ∷ (0, start)
    ∷ (0, stop)
    ∷ (1, start)
    ∷ (1, stop)
    ∷ [])
    -- "the commands of a fork are counted by the edition": at phase 7 there is one in the first edition and none in the second
    ∷ rewritten First (0x04 ∷ 0x00 ∷ 0x00 ∷ 0x00 ∷ []) (0, phase_word, 7) ((0, start) ∷ (0, refused 36 0) ∷ []) false
    ∷ rewritten Second (0x04 ∷ 0x00 ∷ 0x00 ∷ 0x00 ∷ []) (0, phase_word, 7) ((0, start) ∷ (0, refused 13 0) ∷ []) false
    -- "empty: 1"
    ∷ refuses First [] 1 0
    -- "the example `05` becomes 5 at 1, and `07` gives 3 at 0" (note 5); a force with no number, with no future open, and with one too few
    ∷ refuses First (0x05 ∷ []) 5 1
    ∷ refuses First (0x07 ∷ []) 3 0
    ∷ refuses First (0x06 ∷ []) 5 1
    ∷ refuses First (0x06 ∷ 0x00 ∷ []) 43 1
    ∷ refuses First (0x05 ∷ 0x00 ∷ 0x06 ∷ 0x01 ∷ 0x00 ∷ []) 43 3
    -- a future is not open inside its own body; 7 comes before 43
    ∷ refuses First (0x05 ∷ 0x06 ∷ 0x00 ∷ 0x00 ∷ 0x00 ∷ []) 43 2
    ∷ refuses First (0x06 ∷ 0x80 ∷ 0x80 ∷ 0x80 ∷ 0x80 ∷ 0x10 ∷ 0x00 ∷ []) 7 1
    -- a future and its force: 19 steps
    ∷ takes First (0x05 ∷ 0x00 ∷ 0x06 ∷ 0x00 ∷ 0x00 ∷ []) 19
    -- the same with the future finished before the force's newEdge, which is then accepted and adds nothing
    ∷ goes First (0x05 ∷ 0x00 ∷ 0x06 ∷ 0x00 ∷ 0x00 ∷ [])
    ((0, start)
    ∷ (0, new 2)
    ∷ (0, new 3)
    ∷ (0, edge 3 2)
    ∷ (0, release 2)
    ∷ (0, release 3)
    ∷ (3, start)
    ∷ (3, stop)
    ∷ (2, start)
    ∷ (2, stop)
    ∷ (0, new 4)
    ∷ (0, edge 2 4)
    ∷ (0, transfer 4)
    ∷ (0, release 4)
    ∷ (4, start)
    ∷ (4, stop)
    ∷ (0, stop)
    ∷ (1, start)
    ∷ (1, stop)
    ∷ [])
    -- a future with job 1, its force, and job 2: vertex 4 is refused until the future is finished
    ∷ goes First (0x05 ∷ 0x01 ∷ 0x01 ∷ 0x00 ∷ 0x06 ∷ 0x00 ∷ 0x01 ∷ 0x02 ∷ 0x00 ∷ [])
    ((0, start)
    ∷ (0, new 2)
    ∷ (0, new 3)
    ∷ (0, edge 3 2)
    ∷ (0, release 2)
    ∷ (0, release 3)
    ∷ (0, new 4)
    ∷ (0, edge 2 4)
    ∷ (0, transfer 4)
    ∷ (0, release 4)
    ∷ (0, stop)
    ∷ (4, refused 21 0)
    ∷ (3, start)
    ∷ (3, job 1 1)
    ∷ (3, stop)
    ∷ (4, refused 21 0)
    ∷ (2, start)
    ∷ (2, stop)
    ∷ (4, start)
    ∷ (4, job 2 6)
    ∷ (4, stop)
    ∷ (1, start)
    ∷ (1, stop)
    ∷ [])
    -- "`01 80 00 00`: 2 at 1"
    ∷ refuses First (0x01 ∷ 0x80 ∷ 0x00 ∷ 0x00 ∷ []) 2 1
    -- "`00 00`: 6 at 1"
    ∷ refuses First (0x00 ∷ 0x00 ∷ []) 6 1
    -- "`03 00`: 5 at 2"
    ∷ refuses First (0x03 ∷ 0x00 ∷ []) 5 2
    -- "`01 FF FF 03 00`: job 65,535"
    ∷ comes First (0x01 ∷ 0xFF ∷ 0xFF ∷ 0x03 ∷ 0x00 ∷ []) 2 (job 65535 0)
    -- "The example `01 80 80 04 00` becomes a load with job 65,536." (note 1)
    ∷ comes First (0x01 ∷ 0x80 ∷ 0x80 ∷ 0x04 ∷ 0x00 ∷ []) 2 (job 65536 0)
    -- "one to five bytes and reach 4,294,967,295": the largest number; the next one, and the largest of five bytes
    ∷ comes First (0x01 ∷ 0xFF ∷ 0xFF ∷ 0xFF ∷ 0xFF ∷ 0x0F ∷ 0x00 ∷ []) 2 (job 4294967295 0)
    ∷ refuses First (0x01 ∷ 0x80 ∷ 0x80 ∷ 0x80 ∷ 0x80 ∷ 0x10 ∷ 0x00 ∷ []) 7 1
    ∷ refuses First (0x01 ∷ 0xFF ∷ 0xFF ∷ 0xFF ∷ 0xFF ∷ 0x7F ∷ 0x00 ∷ []) 7 1
    -- "longer than five bytes or not shortest": a sixth byte, 0 or not, and a fifth that is 0
    ∷ refuses First (0x01 ∷ 0x80 ∷ 0x80 ∷ 0x80 ∷ 0x80 ∷ 0x80 ∷ 0x00 ∷ []) 2 1
    ∷ refuses First (0x01 ∷ 0x80 ∷ 0x80 ∷ 0x80 ∷ 0x80 ∷ 0x80 ∷ 0x01 ∷ 0x00 ∷ []) 2 1
    ∷ refuses First (0x01 ∷ 0x80 ∷ 0x80 ∷ 0x80 ∷ 0x80 ∷ 0x00 ∷ 0x00 ∷ []) 2 1
    -- "5 bytes run out, in a number before the last byte that it may have": before the fifth, and behind it no more
    ∷ refuses First (0x01 ∷ 0x80 ∷ 0x80 ∷ 0x80 ∷ 0x80 ∷ []) 5 5
    ∷ refuses First (0x01 ∷ 0x80 ∷ 0x80 ∷ 0x80 ∷ 0x80 ∷ 0x80 ∷ []) 2 1
    -- "Bare: start 0, new 1, new 2, edge 1 2; then edge 2 1 and edge 1 1 give 35"; edge 1 2 is taken (note 3); "edge 0 1 is
    -- taken; transfer to 1 gives 38, to 2 gives 35."
    ∷ bare
    ((Start 0, of_graph.start)
    ∷ (NewTd 0 0 0, of_graph.new 1)
    ∷ (NewTd 0 0 0, of_graph.new 2)
    ∷ (NewEdge 0 1 2, of_graph.edge 1 2)
    ∷ (NewEdge 0 2 1, of_graph.refused 35 0)
    ∷ (NewEdge 0 1 1, of_graph.refused 35 0)
    ∷ (NewEdge 0 1 2, of_graph.edge 1 2)
    ∷ (NewEdge 0 0 1, of_graph.edge 0 1)
    ∷ (Transfer 0 1, of_graph.refused 38 0)
    ∷ (Transfer 0 2, of_graph.refused 35 0)
    ∷ [])
    -- "let newEdge also take the caller as its target"; "33 spares the caller"; "yield, which turns the executing caller released" (note 10): an
    -- edge onto the caller is taken, from itself 35, onto another that executes 33; the caller yields, is refused until the edge's source is
    -- finished, and starts again
    ∷ bare
    ((Start 0, of_graph.start)
    ∷ (NewTd 0 0 0, of_graph.new 1)
    ∷ (NewEdge 0 1 0, of_graph.edge 1 0)
    ∷ (NewEdge 0 0 0, of_graph.refused 35 0)
    ∷ (NewEdge 0 0 1, of_graph.refused 35 0)
    ∷ (Yield 1, of_graph.refused 30 0)
    ∷ (Yield 2, of_graph.refused 20 0)
    ∷ (Release 0 1, of_graph.release 1)
    ∷ (Start 1, of_graph.start)
    ∷ (NewEdge 1 1 0, of_graph.refused 33 0)
    ∷ (Yield 0, of_graph.yield)
    ∷ (Yield 0, of_graph.refused 30 0)
    ∷ (Start 0, of_graph.refused 21 0)
    ∷ (Stop 1, of_graph.stop)
    ∷ (Start 0, of_graph.start)
    ∷ [])
    -- "An edge held already is now accepted and changes nothing, tested before 35" (note 3): on a table whose last row it
    -- filled; where a cycle and an edge from a vertex to itself are lent; at a step
    ∷ bare
    ((Start 0, of_graph.start)
    ∷ (NewTd 0 0 0, of_graph.new 1)
    ∷ (NewTd 0 0 0, of_graph.new 2)
    ∷ (NewTd 0 0 0, of_graph.new 3)
    ∷ (NewEdge 0 0 1, of_graph.edge 0 1)
    ∷ (NewEdge 0 1 2, of_graph.edge 1 2)
    ∷ (NewEdge 0 2 3, of_graph.edge 2 3)
    ∷ (NewEdge 0 1 3, of_graph.edge 1 3)
    ∷ (NewEdge 0 1 3, of_graph.edge 1 3)
    ∷ (NewEdge 0 0 1, of_graph.edge 0 1)
    ∷ (NewEdge 0 0 2, of_graph.refused 32 0)
    ∷ [])
    ∷ keeps cycle_lent
    ((NewEdge 0 1 2, of_graph.edge 1 2)
    ∷ (NewEdge 0 2 1, of_graph.edge 2 1)
    ∷ (NewEdge 0 2 2, of_graph.edge 2 2)
    ∷ (NewEdge 0 1 1, of_graph.refused 35 0)
    ∷ [])
    ∷ altered First (0x02 ∷ 0x01 ∷ 0x01 ∷ 0x00 ∷ 0x01 ∷ 0x02 ∷ 0x00 ∷ []) (0 ∷ 0 ∷ []) (2, 1)
    ((0, edge 2 1)
    ∷ (0, release 2)
    ∷ (0, job 2 4)
    ∷ (0, stop)
    ∷ (2, start)
    ∷ (2, job 1 1)
    ∷ (2, stop)
    ∷ (1, start)
    ∷ (1, stop)
    ∷ [])
    -- "Start reads that word" (note 6): the edge from 0 to 1 is counted until 0 stops; "on altered tables 21 follows the word": vertex 1 starts
    -- where its word is 0, which a dropped edge then leaves, and vertex 0 is refused where its word is 5
    ∷ goes First (0x00 ∷ [])
    ((1, refused 21 0) ∷ (0, start) ∷ (1, refused 21 0) ∷ (0, stop) ∷ (1, start) ∷ (1, stop) ∷ [])
    ∷ rewritten First (0x00 ∷ []) (1, in_count_word, 0) ((1, start) ∷ (1, stop) ∷ (0, start) ∷ (0, stop) ∷ []) true
    ∷ rewritten First (0x00 ∷ []) (0, in_count_word, 5) ((0, refused 21 0) ∷ []) false
    -- "for a step of a released vertex, 12 then looks at the tally and that vertex's row only": where vertex 1 has no status, vertex 0 starts,
    -- and no other step is taken
    ∷ rewritten First (0x00 ∷ []) (1, status_word, 9) ((0, start) ∷ (0, refused 12 0) ∷ (1, refused 12 0) ∷ []) false
    -- "Every fair order can happen" (note 7): the jobs of the fork with job 2 first, in either edition; with job 3 first, which is not fair, the
    -- schedule ends where jobs 1 and 2 are all that can be stepped next; and those of a future and what follows it, the future's last
    ∷ schedules First (0x04 ∷ 0x01 ∷ 0x01 ∷ 0x00 ∷ 0x01 ∷ 0x02 ∷ 0x00 ∷ 0x01 ∷ 0x03 ∷ 0x00 ∷ []) (4 ∷ 1 ∷ 7 ∷ [])
    (0 ∷ 0 ∷ 0 ∷ 0 ∷ 0 ∷ 0 ∷ 0 ∷ 0 ∷ 0 ∷ 0 ∷ 0 ∷ 2 ∷ 3 ∷ 3 ∷ 3 ∷ 2 ∷ 2 ∷ 4 ∷ 4 ∷ 4 ∷ 1 ∷ 1 ∷ [])
    ∷ schedules Second (0x04 ∷ 0x01 ∷ 0x01 ∷ 0x00 ∷ 0x01 ∷ 0x02 ∷ 0x00 ∷ 0x01 ∷ 0x03 ∷ 0x00 ∷ []) (4 ∷ 1 ∷ 7 ∷ [])
    (0 ∷ 0 ∷ 0 ∷ 0 ∷ 0 ∷ 0 ∷ 0 ∷ 0 ∷ 2 ∷ 3 ∷ 3 ∷ 3 ∷ 2 ∷ 2 ∷ 0 ∷ 0 ∷ 0 ∷ 1 ∷ 1 ∷ [])
    ∷ schedules First (0x04 ∷ 0x01 ∷ 0x01 ∷ 0x00 ∷ 0x01 ∷ 0x02 ∷ 0x00 ∷ 0x01 ∷ 0x03 ∷ 0x00 ∷ []) (7 ∷ 1 ∷ 4 ∷ [])
    (0 ∷ 0 ∷ 0 ∷ 0 ∷ 0 ∷ 0 ∷ 0 ∷ 0 ∷ 0 ∷ 0 ∷ 0 ∷ 2 ∷ 3 ∷ [])
    ∷ schedules First (0x05 ∷ 0x01 ∷ 0x01 ∷ 0x00 ∷ 0x01 ∷ 0x02 ∷ 0x00 ∷ []) (4 ∷ 1 ∷ [])
    (0 ∷ 0 ∷ 0 ∷ 0 ∷ 0 ∷ 0 ∷ 3 ∷ 0 ∷ 0 ∷ 1 ∷ 1 ∷ 3 ∷ 3 ∷ 2 ∷ 2 ∷ [])
    ∷ []

-- each example of a list holds
infixr 30 ◌&◌
pub data Each : List Example → Type 0 where
  none : Each []
  ◌&◌ : {e : Example} {es : List Example} → ComesTrue e → Each es → Each (e ∷ es)
