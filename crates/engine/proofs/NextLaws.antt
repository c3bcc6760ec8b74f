-- What is due at a step of an executing vertex, by the kind of the item at its place and its phase: one law for each return of src/next.rt.
-- The definition reads the tables; `from` says the same of the vertex's words alone, and computes where the phase is a numeral.
use Prim.Native.Nat.{ℕ, zero, suc, ◌+◌, ◌≤◌}
use mathlib.Core.Path.{◌≡◌, refl, sym, ◌∙◌, ap}
use mathlib.Core.Bool.{Bool, true}
use mathlib.Core.List.{List, [], ◌∷◌}
use mathlib.Core.Option.{Option, none, some}
use native.Mathlib.Omega.{arith}
use lib.Dec.{eqb}
use lib.ListN.{length}
use borrow.Author.Tests.{ne_eqb}
use Rattle.graph.specs.Tests.{both}
use Rattle.graph.specs.Tables.{Lent}
use Rattle.graph.specs.declared.Command as single
use Rattle.graph.specs.declared.Command.TheVariants.{NewTd, NewEdge, Release, Transfer, Stop, Yield}
use Rattle.program.specs.declared.Edition.{Edition}
use Rattle.program.specs.declared.Edition.TheVariants.{First, Second}
use Rattle.program.specs.Trees.{jobs, asyncs, finishes, futures, forces}
use Rattle.program.specs.Encodings.{Name, self, own_scope, made_1, made_2, made_3, forced, Spot, Command, perform, new_td, new_edge, transfer}
use Rattle.program.specs.Encodings.{release, yield, Row, fork_row, row_of, weight, makes}
use Rattle.program.specs.Answers.{Stands}
use Rattle.refusal.specs.Refusals.{nothing_starts}
use Rattle.machine.specs.Stepping.{phase, scope, latest, open_future, further, followed, or_zero, named, is_vertex, stands, all_stand}
use Rattle.machine.specs.Stepping.{Task, item, ends, nothing, spots, task, nth, Own, own, own_of, with_made, with_kept, with_phase, own_past_item}
use Rattle.machine.specs.Stepping.{moved_on, Due, refusal_due, job_due, command_due, due_if, filled_in, next_of, next_at}
use Rattle.engine.specs.Internal.Underway.{NextAt, AlikeAt, outwards, FollowsTo, ForceEdge, idle_own}
use Rattle.engine.specs.Internal.Underway.{EndNext, JobNext, AsyncNext, ForkNext}

-- what a name stands for, by the vertex, its scope and own words; f is the vertex that a force names
unfoldable named_from : ℕ → ℕ → Own → Option ℕ → Name → ℕ
named_from v σ (own p φ a b c l) f self = v
named_from v σ (own p φ a b c l) f own_scope = σ
named_from v σ (own p φ a b c l) f made_1 = a
named_from v σ (own p φ a b c l) f made_2 = b
named_from v σ (own p φ a b c l) f made_3 = c
named_from v σ (own p φ a b c l) f forced = or_zero f

abbrev stands_from : Option ℕ → Name → Bool
stands_from f self = true
stands_from f own_scope = true
stands_from f made_1 = true
stands_from f made_2 = true
stands_from f made_3 = true
stands_from f forced = is_vertex f

abbrev all_from : Option ℕ → Command → Bool
all_from f perform = true
all_from f (new_td p a) = stands_from f a
all_from f (new_edge a b) = both (stands_from f a) (stands_from f b)
all_from f (transfer a) = stands_from f a
all_from f (release a) = stands_from f a
all_from f yield = true

abbrev place_in : Own → ℕ
place_in (own p φ a b c l) = p

abbrev phase_in : Own → ℕ
phase_in (own p φ a b c l) = φ

-- a command of the table with its names and places filled in; w' is what the words are afterwards
unfoldable filled_from : ℕ → ℕ → Own → Option ℕ → ℕ → (Spot → ℕ) → Own → Command → Due
filled_from v σ w f n spot w' perform = job_due n (place_in w) w'
filled_from v σ w f n spot w' (new_td p a) = command_due (NewTd v (spot p) (named_from v σ w f a)) w'
filled_from v σ w f n spot w' (new_edge a b) = command_due (NewEdge v (named_from v σ w f a) (named_from v σ w f b)) w'
filled_from v σ w f n spot w' (transfer a) = command_due (Transfer v (named_from v σ w f a)) w'
filled_from v σ w f n spot w' (release a) = command_due (Release v (named_from v σ w f a)) w'
filled_from v σ w f n spot w' yield = command_due (Yield v) w'

unfoldable next_from : ℕ → ℕ → Own → ℕ → Option ℕ → Row → ℕ → (Spot → ℕ) → Option Command → Due
next_from v σ w m f row n spot none = refusal_due nothing_starts
next_from v σ w m f row n spot (some c) =
    due_if (all_from f c) nothing_starts (filled_from v σ w f n spot (moved_on row spot c (phase_in w) m w) c)

-- what is due, by the vertex's scope and own words, the number made, and the vertices that forces name
unfoldable from : ℕ → ℕ → Own → ℕ → (ℕ → Option ℕ) → Task → Due
from v σ w m g (item row n spot) = next_from v σ w m (g n) row n spot (nth row.commands (phase_in w))
from v σ w m g ends = due_if (eqb (phase_in w) 0) nothing_starts (command_due (Stop v) w)
from v σ w m g nothing = refusal_due nothing_starts

named_is : (s : Lent) (v n : ℕ) (x : Name) → named s v n x ≡ named_from v (scope s v) (own_of s v) (followed s v n) x
unfolding named named_from own_of
named_is s v n self = refl
named_is s v n own_scope = refl
named_is s v n made_1 = refl
named_is s v n made_2 = refl
named_is s v n made_3 = refl
named_is s v n forced = refl

stands_is : (s : Lent) (v n : ℕ) (x : Name) → stands s v n x ≡ stands_from (followed s v n) x
unfolding stands
stands_is s v n self = refl
stands_is s v n own_scope = refl
stands_is s v n made_1 = refl
stands_is s v n made_2 = refl
stands_is s v n made_3 = refl
stands_is s v n forced = refl

all_is : (s : Lent) (v n : ℕ) (c : Command) → all_stand s v n c ≡ all_from (followed s v n) c
unfolding all_stand
all_is s v n perform = refl
all_is s v n (new_td p a) = stands_is s v n a
all_is s v n (new_edge a b) = λ i. both (stands_is s v n a i) (stands_is s v n b i)
all_is s v n (transfer a) = stands_is s v n a
all_is s v n (release a) = stands_is s v n a
all_is s v n yield = refl

filled_is :
    (s : Lent) (v n : ℕ) (spot : Spot → ℕ) (w' : Own) (c : Command)
    → filled_in s v n spot w' c ≡ filled_from v (scope s v) (own_of s v) (followed s v n) n spot w' c
unfolding filled_in filled_from own_of
filled_is s v n spot w' perform = refl
filled_is s v n spot w' (new_td p a) = λ i. command_due (NewTd v (spot p) (named_is s v n a i)) w'
filled_is s v n spot w' (new_edge a b) = λ i. command_due (NewEdge v (named_is s v n a i) (named_is s v n b i)) w'
filled_is s v n spot w' (transfer a) = λ i. command_due (Transfer v (named_is s v n a i)) w'
filled_is s v n spot w' (release a) = λ i. command_due (Release v (named_is s v n a i)) w'
filled_is s v n spot w' yield = refl

next_is :
    (s : Lent) (v : ℕ) (row : Row) (n : ℕ) (spot : Spot → ℕ) (o : Option Command)
    → next_of s v row n spot o ≡ next_from v (scope s v) (own_of s v) s.made (followed s v n) row n spot o
unfolding next_of next_from own_of
next_is s v row n spot none = refl
next_is s v row n spot (some c) =
    λ i. due_if (all_is s v n c i) nothing_starts (filled_is s v n spot (moved_on row spot c (phase s v) s.made (own_of s v)) c i)

at_is : (s : Lent) (v : ℕ) (t : Task) → next_at s v t ≡ from v (scope s v) (own_of s v) s.made (followed s v) t
unfolding next_at from own_of
at_is s v (item row n spot) = next_is s v row n spot _
at_is s v ends = refl
at_is s v nothing = refl

-- from the words alone, whatever a force names
told_at :
    (ed : Edition) (L v σ : ℕ) (w : Own) (m : ℕ) (t : Stands) {d : Due} (s : Lent) → own_of s v ≡ w → scope s v ≡ σ → s.made ≡ m
    → d ≡ from v σ w m (followed s v) (task ed L t) → d ≡ next_at s v (task ed L t)
told_at ed L v σ w m t s hw hσ hm q = q ∙ sym (at_is s v (task ed L t) ∙ (λ i. from v (hσ i) (hw i) (hm i) (followed s v) (task ed L t)))

told :
    (ed : Edition) (L v σ : ℕ) (w : Own) (m : ℕ) (t : Stands) {d : Due} → ((g : ℕ → Option ℕ) → d ≡ from v σ w m g (task ed L t))
    → NextAt ed L v σ w m t d
told ed L v σ w m t q s hw hσ hm = told_at ed L v σ w m t s hw hσ hm (q (followed s v))

-- no command stands beyond the last
nth_beyond : (cs : List Command) (φ : ℕ) → length cs ≤ φ → nth cs φ ≡ none
unfolding nth
nth_beyond [] φ h = refl
nth_beyond (c ∷ cs) zero h = absurd (omega arith)
nth_beyond (c ∷ cs) (suc φ) h = nth_beyond cs φ (omega arith)

-- THE WORDS
-- the words that keep a vertex, as the first, the second or the third that the item made
pub kept_first : (p φ ψ a b c l x k : ℕ) → k ≡ 0 → own p ψ x b c l ≡ with_phase ψ (with_made k x (own p φ a b c l))
unfolding with_phase with_made
kept_first p φ ψ a b c l x k q = rw q refl

pub kept_second : (p φ ψ a b c l x k : ℕ) → k ≡ 1 → own p ψ a x c l ≡ with_phase ψ (with_made k x (own p φ a b c l))
unfolding with_phase with_made
kept_second p φ ψ a b c l x k q = rw q refl

pub kept_third :
    (p φ ψ a b c l x k : ℕ) → (k ≡ 0 → ⊥) → (k ≡ 1 → ⊥) → own p ψ a b x l ≡ with_phase ψ (with_made k x (own p φ a b c l))
unfolding with_phase with_made
kept_third p φ ψ a b c l x zero h i = absurd (h refl)
kept_third p φ ψ a b c l x (suc zero) h i = absurd (i refl)
kept_third p φ ψ a b c l x (suc (suc k)) h i = refl

pub ruleset kept = (kept_first, kept_second, kept_third, refl)

-- a phase that is none of an item's
at_least_4 : {φ : ℕ} → (φ ≡ 0 → ⊥) → (φ ≡ 1 → ⊥) → (φ ≡ 2 → ⊥) → (φ ≡ 3 → ⊥) → 4 ≤ φ
at_least_4 h0 h1 h2 h3 = omega arith

at_least_7 : {φ : ℕ} → 4 ≤ φ → (φ ≡ 4 → ⊥) → (φ ≡ 5 → ⊥) → (φ ≡ 6 → ⊥) → 7 ≤ φ
at_least_7 h h4 h5 h6 = omega arith

at_least_9 : {φ : ℕ} → 7 ≤ φ → (φ ≡ 7 → ⊥) → (φ ≡ 8 → ⊥) → 9 ≤ φ
at_least_9 h h7 h8 = omega arith

-- THE ITEMS
-- an end byte
pub end_stop : (v : ℕ) {p φ a b c l : ℕ} → φ ≡ 0 → EndNext v (own p φ a b c l) (command_due (Stop v) (own p φ a b c l))
unfolding from task due_if
end_stop v {p} {φ} {a} {b} {c} {l} q L σ m ed = told ed L v σ (own p φ a b c l) m Stands.end (λ g. rw q refl)

pub end_beyond : (v : ℕ) {p φ a b c l : ℕ} → (φ ≡ 0 → ⊥) → EndNext v (own p φ a b c l) (refusal_due nothing_starts)
unfolding from task due_if
end_beyond v {p} {φ} {a} {b} {c} {l} q L σ m ed = told ed L v σ (own p φ a b c l) m Stands.end (λ g. rw (ne_eqb φ 0 q) refl)

pub ruleset end_due = (end_stop, end_beyond, refl)

-- so a phase there is refused
beyond :
    (v σ m : ℕ) (g : ℕ → Option ℕ) (n : ℕ) (row : Row) (spot : Spot → ℕ) (p φ a b c l : ℕ) → length row.commands ≤ φ
    → refusal_due nothing_starts ≡ from v σ (own p φ a b c l) m g (item row n spot)
unfolding from next_from
beyond v σ m g n row spot p φ a b c l h = rw (nth_beyond row.commands φ h) refl

-- a command is due, and the words afterwards are known
pub due_with : {d : Due} {x : single.Command} {w w' : Own} → w ≡ w' → d ≡ command_due x w → d ≡ command_due x w'
due_with {x = x} e q = q ∙ ap (command_due x) e

-- a job
pub job_perform :
    (v n past : ℕ) {p φ a b c l : ℕ} {d : Due} → φ ≡ 0 → d ≡ job_due n p (idle_own past l) → JobNext v (own p φ a b c l) n past d
unfolding idle_own from next_from both due_if filled_from named_from task nth row_of spots moved_on own_past_item with_made with_kept with_phase weight makes
job_perform v n past {p} {φ} {a} {b} {c} {l} q f L σ m ed =
    told ed L v σ (own p φ a b c l) m (Stands.job n past) (λ g. f ∙ rw q refl)

pub job_beyond : (v n past : ℕ) {p φ a b c l : ℕ} → (φ ≡ 0 → ⊥) → JobNext v (own p φ a b c l) n past (refusal_due nothing_starts)
unfolding task row_of
job_beyond v n past {p} {φ} {a} {b} {c} {l} h L σ m ed =
    told ed L v σ (own p φ a b c l) m (Stands.job n past)
    (λ g. beyond v σ m g n (row_of ed jobs) (spots past past past L) p φ a b c l (omega arith))

pub ruleset job_due_laws = (job_perform, job_beyond, refl)

-- an async: the number of a law is the phase
pub async_0 :
    (v σ m body past : ℕ) {p φ a b c l : ℕ} {d : Due} → φ ≡ 0
    → d ≡ command_due (NewTd v body σ) (with_phase (φ + 1) (with_made 0 m (own p φ a b c l))) → AsyncNext v σ (own p φ a b c l) m body past d
unfolding from next_from both due_if filled_from named_from task nth row_of spots moved_on own_past_item with_made with_kept with_phase weight makes
async_0 v σ m body past {p} {φ} {a} {b} {c} {l} q f L ed =
    told ed L v σ (own p φ a b c l) m (Stands.async body past) (λ g. f ∙ rw q refl)

pub async_1 :
    (v σ m body past : ℕ) {p φ a b c l : ℕ} {d : Due} → φ ≡ 1
    → d ≡ command_due (NewEdge v a σ) (with_phase (φ + 1) (own p φ a b c l)) → AsyncNext v σ (own p φ a b c l) m body past d
unfolding from next_from both due_if filled_from named_from task nth row_of spots moved_on own_past_item with_made with_kept with_phase weight makes
async_1 v σ m body past {p} {φ} {a} {b} {c} {l} q f L ed =
    told ed L v σ (own p φ a b c l) m (Stands.async body past) (λ g. f ∙ rw q refl)

pub async_2 :
    (v σ m body past : ℕ) {p φ a b c l : ℕ} {d : Due} → φ ≡ 2
    → d ≡ command_due (Release v a) (idle_own past l) → AsyncNext v σ (own p φ a b c l) m body past d
unfolding idle_own from next_from both due_if filled_from named_from task nth row_of spots moved_on own_past_item with_made with_kept with_phase weight makes
async_2 v σ m body past {p} {φ} {a} {b} {c} {l} q f L ed =
    told ed L v σ (own p φ a b c l) m (Stands.async body past) (λ g. f ∙ rw q refl)

pub async_beyond :
    (v σ m body past : ℕ) {p φ a b c l : ℕ} → (φ ≡ 0 → ⊥) → (φ ≡ 1 → ⊥) → (φ ≡ 2 → ⊥)
    → AsyncNext v σ (own p φ a b c l) m body past (refusal_due nothing_starts)
unfolding task row_of
async_beyond v σ m body past {p} {φ} {a} {b} {c} {l} h0 h1 h2 L ed =
    told ed L v σ (own p φ a b c l) m (Stands.async body past)
    (λ g. beyond v σ m g 0 (row_of ed asyncs) (spots body body past L) p φ a b c l (omega arith))

pub ruleset async_due = (async_0, async_1, async_2, async_beyond, refl)

-- a finish
pub finish_0 :
    (L v σ m body past : ℕ) {p φ a b c l : ℕ} {d : Due} → φ ≡ 0
    → d ≡ command_due (NewTd v past σ) (with_phase (φ + 1) (with_made 0 m (own p φ a b c l))) → AlikeAt L v σ (own p φ a b c l) m (Stands.finish body past) d
unfolding from next_from both due_if filled_from named_from task nth row_of spots moved_on own_past_item with_made with_kept with_phase weight makes
finish_0 L v σ m body past {p} {φ} {a} {b} {c} {l} q f ed =
    told ed L v σ (own p φ a b c l) m (Stands.finish body past) (λ g. f ∙ rw q refl)

pub finish_1 :
    (L v σ m body past : ℕ) {p φ a b c l : ℕ} {d : Due} → φ ≡ 1
    → d ≡ command_due (NewTd v body a) (with_phase (φ + 1) (with_made 1 m (own p φ a b c l))) → AlikeAt L v σ (own p φ a b c l) m (Stands.finish body past) d
unfolding from next_from both due_if filled_from named_from task nth row_of spots moved_on own_past_item with_made with_kept with_phase weight makes
finish_1 L v σ m body past {p} {φ} {a} {b} {c} {l} q f ed =
    told ed L v σ (own p φ a b c l) m (Stands.finish body past) (λ g. f ∙ rw q refl)

pub finish_2 :
    (L v σ m body past : ℕ) {p φ a b c l : ℕ} {d : Due} → φ ≡ 2
    → d ≡ command_due (NewEdge v b a) (with_phase (φ + 1) (own p φ a b c l)) → AlikeAt L v σ (own p φ a b c l) m (Stands.finish body past) d
unfolding from next_from both due_if filled_from named_from task nth row_of spots moved_on own_past_item with_made with_kept with_phase weight makes
finish_2 L v σ m body past {p} {φ} {a} {b} {c} {l} q f ed =
    told ed L v σ (own p φ a b c l) m (Stands.finish body past) (λ g. f ∙ rw q refl)

pub finish_3 :
    (L v σ m body past : ℕ) {p φ a b c l : ℕ} {d : Due} → φ ≡ 3
    → d ≡ command_due (Transfer v a) (with_phase (φ + 1) (own p φ a b c l)) → AlikeAt L v σ (own p φ a b c l) m (Stands.finish body past) d
unfolding from next_from both due_if filled_from named_from task nth row_of spots moved_on own_past_item with_made with_kept with_phase weight makes
finish_3 L v σ m body past {p} {φ} {a} {b} {c} {l} q f ed =
    told ed L v σ (own p φ a b c l) m (Stands.finish body past) (λ g. f ∙ rw q refl)

pub finish_4 :
    (L v σ m body past : ℕ) {p φ a b c l : ℕ} {d : Due} → φ ≡ 4
    → d ≡ command_due (Release v a) (with_phase (φ + 1) (own p φ a b c l)) → AlikeAt L v σ (own p φ a b c l) m (Stands.finish body past) d
unfolding from next_from both due_if filled_from named_from task nth row_of spots moved_on own_past_item with_made with_kept with_phase weight makes
finish_4 L v σ m body past {p} {φ} {a} {b} {c} {l} q f ed =
    told ed L v σ (own p φ a b c l) m (Stands.finish body past) (λ g. f ∙ rw q refl)

pub finish_5 :
    (L v σ m body past : ℕ) {p φ a b c l : ℕ} {d : Due} → φ ≡ 5
    → d ≡ command_due (Release v b) (idle_own L l) → AlikeAt L v σ (own p φ a b c l) m (Stands.finish body past) d
unfolding idle_own from next_from both due_if filled_from named_from task nth row_of spots moved_on own_past_item with_made with_kept with_phase weight makes
finish_5 L v σ m body past {p} {φ} {a} {b} {c} {l} q f ed =
    told ed L v σ (own p φ a b c l) m (Stands.finish body past) (λ g. f ∙ rw q refl)

pub finish_beyond :
    (L v σ m body past : ℕ) {p φ a b c l : ℕ} → (φ ≡ 0 → ⊥) → (φ ≡ 1 → ⊥) → (φ ≡ 2 → ⊥) → (φ ≡ 3 → ⊥) → (φ ≡ 4 → ⊥) → (φ ≡ 5 → ⊥)
    → AlikeAt L v σ (own p φ a b c l) m (Stands.finish body past) (refusal_due nothing_starts)
unfolding task row_of
finish_beyond L v σ m body past {p} {φ} {a} {b} {c} {l} h0 h1 h2 h3 h4 h5 ed =
    told ed L v σ (own p φ a b c l) m (Stands.finish body past)
    (λ g. beyond v σ m g 0 (row_of ed finishes) (spots body body past L) p φ a b c l (omega arith))

pub ruleset finish_due = (finish_0, finish_1, finish_2, finish_3, finish_4, finish_5, finish_beyond, refl)

-- a fork of the first edition
pub fork_0 :
    (L v σ m left right past : ℕ) {p φ a b c l : ℕ} {d : Due} → φ ≡ 0
    → d ≡ command_due (NewTd v left σ) (with_phase (φ + 1) (with_made 0 m (own p φ a b c l))) → NextAt First L v σ (own p φ a b c l) m (Stands.fork left right past) d
unfolding from next_from both due_if filled_from named_from task nth row_of fork_row spots moved_on own_past_item with_made with_kept with_phase weight makes
fork_0 L v σ m left right past {p} {φ} {a} {b} {c} {l} q f =
    told First L v σ (own p φ a b c l) m (Stands.fork left right past) (λ g. f ∙ rw q refl)

pub fork_1 :
    (L v σ m left right past : ℕ) {p φ a b c l : ℕ} {d : Due} → φ ≡ 1
    → d ≡ command_due (NewTd v right σ) (with_phase (φ + 1) (with_made 1 m (own p φ a b c l))) → NextAt First L v σ (own p φ a b c l) m (Stands.fork left right past) d
unfolding from next_from both due_if filled_from named_from task nth row_of fork_row spots moved_on own_past_item with_made with_kept with_phase weight makes
fork_1 L v σ m left right past {p} {φ} {a} {b} {c} {l} q f =
    told First L v σ (own p φ a b c l) m (Stands.fork left right past) (λ g. f ∙ rw q refl)

pub fork_2 :
    (L v σ m left right past : ℕ) {p φ a b c l : ℕ} {d : Due} → φ ≡ 2
    → d ≡ command_due (NewTd v past σ) (with_phase (φ + 1) (with_made 2 m (own p φ a b c l))) → NextAt First L v σ (own p φ a b c l) m (Stands.fork left right past) d
unfolding from next_from both due_if filled_from named_from task nth row_of fork_row spots moved_on own_past_item with_made with_kept with_phase weight makes
fork_2 L v σ m left right past {p} {φ} {a} {b} {c} {l} q f =
    told First L v σ (own p φ a b c l) m (Stands.fork left right past) (λ g. f ∙ rw q refl)

pub fork_3 :
    (L v σ m left right past : ℕ) {p φ a b c l : ℕ} {d : Due} → φ ≡ 3
    → d ≡ command_due (NewEdge v a c) (with_phase (φ + 1) (own p φ a b c l)) → NextAt First L v σ (own p φ a b c l) m (Stands.fork left right past) d
unfolding from next_from both due_if filled_from named_from task nth row_of fork_row spots moved_on own_past_item with_made with_kept with_phase weight makes
fork_3 L v σ m left right past {p} {φ} {a} {b} {c} {l} q f =
    told First L v σ (own p φ a b c l) m (Stands.fork left right past) (λ g. f ∙ rw q refl)

pub fork_4 :
    (L v σ m left right past : ℕ) {p φ a b c l : ℕ} {d : Due} → φ ≡ 4
    → d ≡ command_due (NewEdge v b c) (with_phase (φ + 1) (own p φ a b c l)) → NextAt First L v σ (own p φ a b c l) m (Stands.fork left right past) d
unfolding from next_from both due_if filled_from named_from task nth row_of fork_row spots moved_on own_past_item with_made with_kept with_phase weight makes
fork_4 L v σ m left right past {p} {φ} {a} {b} {c} {l} q f =
    told First L v σ (own p φ a b c l) m (Stands.fork left right past) (λ g. f ∙ rw q refl)

pub fork_5 :
    (L v σ m left right past : ℕ) {p φ a b c l : ℕ} {d : Due} → φ ≡ 5
    → d ≡ command_due (Transfer v c) (with_phase (φ + 1) (own p φ a b c l)) → NextAt First L v σ (own p φ a b c l) m (Stands.fork left right past) d
unfolding from next_from both due_if filled_from named_from task nth row_of fork_row spots moved_on own_past_item with_made with_kept with_phase weight makes
fork_5 L v σ m left right past {p} {φ} {a} {b} {c} {l} q f =
    told First L v σ (own p φ a b c l) m (Stands.fork left right past) (λ g. f ∙ rw q refl)

pub fork_6 :
    (L v σ m left right past : ℕ) {p φ a b c l : ℕ} {d : Due} → φ ≡ 6
    → d ≡ command_due (Release v c) (with_phase (φ + 1) (own p φ a b c l)) → NextAt First L v σ (own p φ a b c l) m (Stands.fork left right past) d
unfolding from next_from both due_if filled_from named_from task nth row_of fork_row spots moved_on own_past_item with_made with_kept with_phase weight makes
fork_6 L v σ m left right past {p} {φ} {a} {b} {c} {l} q f =
    told First L v σ (own p φ a b c l) m (Stands.fork left right past) (λ g. f ∙ rw q refl)

pub fork_7 :
    (L v σ m left right past : ℕ) {p φ a b c l : ℕ} {d : Due} → φ ≡ 7
    → d ≡ command_due (Release v a) (with_phase (φ + 1) (own p φ a b c l)) → NextAt First L v σ (own p φ a b c l) m (Stands.fork left right past) d
unfolding from next_from both due_if filled_from named_from task nth row_of fork_row spots moved_on own_past_item with_made with_kept with_phase weight makes
fork_7 L v σ m left right past {p} {φ} {a} {b} {c} {l} q f =
    told First L v σ (own p φ a b c l) m (Stands.fork left right past) (λ g. f ∙ rw q refl)

pub fork_8 :
    (L v σ m left right past : ℕ) {p φ a b c l : ℕ} {d : Due} → φ ≡ 8
    → d ≡ command_due (Release v b) (idle_own L l) → NextAt First L v σ (own p φ a b c l) m (Stands.fork left right past) d
unfolding idle_own from next_from both due_if filled_from named_from task nth row_of fork_row spots moved_on own_past_item with_made with_kept with_phase weight makes
fork_8 L v σ m left right past {p} {φ} {a} {b} {c} {l} q f =
    told First L v σ (own p φ a b c l) m (Stands.fork left right past) (λ g. f ∙ rw q refl)

pub fork_beyond :
    (L v σ m left right past : ℕ) {p φ a b c l : ℕ} → (φ ≡ 0 → ⊥) → (φ ≡ 1 → ⊥) → (φ ≡ 2 → ⊥) → (φ ≡ 3 → ⊥) → (φ ≡ 4 → ⊥) → (φ ≡ 5 → ⊥)
    → (φ ≡ 6 → ⊥) → (φ ≡ 7 → ⊥) → (φ ≡ 8 → ⊥)
    → NextAt First L v σ (own p φ a b c l) m (Stands.fork left right past) (refusal_due nothing_starts)
unfolding task row_of fork_row
fork_beyond L v σ m left right past {p} {φ} {a} {b} {c} {l} h0 h1 h2 h3 h4 h5 h6 h7 h8 =
    told First L v σ (own p φ a b c l) m (Stands.fork left right past)
    (λ g.
    beyond v σ m g 0 (fork_row First) (spots left right past L) p φ a b c l
    (at_least_9 (at_least_7 (at_least_4 h0 h1 h2 h3) h4 h5 h6) h7 h8))

pub ruleset fork_due = (fork_0, fork_1, fork_2, fork_3, fork_4, fork_5, fork_6, fork_7, fork_8, fork_beyond, refl)

-- a fork of the second edition
pub yielding_0 :
    (v σ m left right past : ℕ) {p φ a b c l : ℕ} {d : Due} → φ ≡ 0
    → d ≡ command_due (NewTd v left σ) (with_phase (φ + 1) (with_made 0 m (own p φ a b c l))) → ForkNext Second v σ (own p φ a b c l) m left right past d
unfolding from next_from both due_if filled_from named_from task nth row_of fork_row spots moved_on own_past_item with_made with_kept with_phase weight makes
yielding_0 v σ m left right past {p} {φ} {a} {b} {c} {l} q f L =
    told Second L v σ (own p φ a b c l) m (Stands.fork left right past) (λ g. f ∙ rw q refl)

pub yielding_1 :
    (v σ m left right past : ℕ) {p φ a b c l : ℕ} {d : Due} → φ ≡ 1
    → d ≡ command_due (NewTd v right σ) (with_phase (φ + 1) (with_made 1 m (own p φ a b c l))) → ForkNext Second v σ (own p φ a b c l) m left right past d
unfolding from next_from both due_if filled_from named_from task nth row_of fork_row spots moved_on own_past_item with_made with_kept with_phase weight makes
yielding_1 v σ m left right past {p} {φ} {a} {b} {c} {l} q f L =
    told Second L v σ (own p φ a b c l) m (Stands.fork left right past) (λ g. f ∙ rw q refl)

pub yielding_2 :
    (v σ m left right past : ℕ) {p φ a b c l : ℕ} {d : Due} → φ ≡ 2
    → d ≡ command_due (NewEdge v a v) (with_phase (φ + 1) (own p φ a b c l)) → ForkNext Second v σ (own p φ a b c l) m left right past d
unfolding from next_from both due_if filled_from named_from task nth row_of fork_row spots moved_on own_past_item with_made with_kept with_phase weight makes
yielding_2 v σ m left right past {p} {φ} {a} {b} {c} {l} q f L =
    told Second L v σ (own p φ a b c l) m (Stands.fork left right past) (λ g. f ∙ rw q refl)

pub yielding_3 :
    (v σ m left right past : ℕ) {p φ a b c l : ℕ} {d : Due} → φ ≡ 3
    → d ≡ command_due (NewEdge v b v) (with_phase (φ + 1) (own p φ a b c l)) → ForkNext Second v σ (own p φ a b c l) m left right past d
unfolding from next_from both due_if filled_from named_from task nth row_of fork_row spots moved_on own_past_item with_made with_kept with_phase weight makes
yielding_3 v σ m left right past {p} {φ} {a} {b} {c} {l} q f L =
    told Second L v σ (own p φ a b c l) m (Stands.fork left right past) (λ g. f ∙ rw q refl)

pub yielding_4 :
    (v σ m left right past : ℕ) {p φ a b c l : ℕ} {d : Due} → φ ≡ 4
    → d ≡ command_due (Release v a) (with_phase (φ + 1) (own p φ a b c l)) → ForkNext Second v σ (own p φ a b c l) m left right past d
unfolding from next_from both due_if filled_from named_from task nth row_of fork_row spots moved_on own_past_item with_made with_kept with_phase weight makes
yielding_4 v σ m left right past {p} {φ} {a} {b} {c} {l} q f L =
    told Second L v σ (own p φ a b c l) m (Stands.fork left right past) (λ g. f ∙ rw q refl)

pub yielding_5 :
    (v σ m left right past : ℕ) {p φ a b c l : ℕ} {d : Due} → φ ≡ 5
    → d ≡ command_due (Release v b) (with_phase (φ + 1) (own p φ a b c l)) → ForkNext Second v σ (own p φ a b c l) m left right past d
unfolding from next_from both due_if filled_from named_from task nth row_of fork_row spots moved_on own_past_item with_made with_kept with_phase weight makes
yielding_5 v σ m left right past {p} {φ} {a} {b} {c} {l} q f L =
    told Second L v σ (own p φ a b c l) m (Stands.fork left right past) (λ g. f ∙ rw q refl)

pub yielding_6 :
    (v σ m left right past : ℕ) {p φ a b c l : ℕ} {d : Due} → φ ≡ 6
    → d ≡ command_due (Yield v) (idle_own past l) → ForkNext Second v σ (own p φ a b c l) m left right past d
unfolding idle_own from next_from both due_if filled_from named_from task nth row_of fork_row spots moved_on own_past_item with_made with_kept with_phase weight makes
yielding_6 v σ m left right past {p} {φ} {a} {b} {c} {l} q f L =
    told Second L v σ (own p φ a b c l) m (Stands.fork left right past) (λ g. f ∙ rw q refl)

pub yielding_beyond :
    (v σ m left right past : ℕ) {p φ a b c l : ℕ} → (φ ≡ 0 → ⊥) → (φ ≡ 1 → ⊥) → (φ ≡ 2 → ⊥) → (φ ≡ 3 → ⊥) → (φ ≡ 4 → ⊥) → (φ ≡ 5 → ⊥)
    → (φ ≡ 6 → ⊥) → ForkNext Second v σ (own p φ a b c l) m left right past (refusal_due nothing_starts)
unfolding task row_of fork_row
yielding_beyond v σ m left right past {p} {φ} {a} {b} {c} {l} h0 h1 h2 h3 h4 h5 h6 L =
    told Second L v σ (own p φ a b c l) m (Stands.fork left right past)
    (λ g. beyond v σ m g 0 (fork_row Second) (spots left right past L) p φ a b c l (at_least_7 (at_least_4 h0 h1 h2 h3) h4 h5 h6))

pub ruleset yielding_due = (yielding_0, yielding_1, yielding_2, yielding_3, yielding_4, yielding_5, yielding_6, yielding_beyond, refl)

-- a future
pub future_0 :
    (L v σ m body past : ℕ) {p φ a b c l : ℕ} {d : Due} → φ ≡ 0
    → d ≡ command_due (NewTd v L σ) (with_phase (φ + 1) (with_made 0 m (own p φ a b c l))) → AlikeAt L v σ (own p φ a b c l) m (Stands.future body past) d
unfolding from next_from both due_if filled_from named_from task nth row_of spots moved_on own_past_item with_made with_kept with_phase weight makes
future_0 L v σ m body past {p} {φ} {a} {b} {c} {l} q f ed =
    told ed L v σ (own p φ a b c l) m (Stands.future body past) (λ g. f ∙ rw q refl)

pub future_1 :
    (L v σ m body past : ℕ) {p φ a b c l : ℕ} {d : Due} → φ ≡ 1
    → d ≡ command_due (NewTd v body a) (with_phase (φ + 1) (with_made 1 m (own p φ a b c l))) → AlikeAt L v σ (own p φ a b c l) m (Stands.future body past) d
unfolding from next_from both due_if filled_from named_from task nth row_of spots moved_on own_past_item with_made with_kept with_phase weight makes
future_1 L v σ m body past {p} {φ} {a} {b} {c} {l} q f ed =
    told ed L v σ (own p φ a b c l) m (Stands.future body past) (λ g. f ∙ rw q refl)

pub future_2 :
    (L v σ m body past : ℕ) {p φ a b c l : ℕ} {d : Due} → φ ≡ 2
    → d ≡ command_due (NewEdge v b a) (with_phase (φ + 1) (own p φ a b c l)) → AlikeAt L v σ (own p φ a b c l) m (Stands.future body past) d
unfolding from next_from both due_if filled_from named_from task nth row_of spots moved_on own_past_item with_made with_kept with_phase weight makes
future_2 L v σ m body past {p} {φ} {a} {b} {c} {l} q f ed =
    told ed L v σ (own p φ a b c l) m (Stands.future body past) (λ g. f ∙ rw q refl)

pub future_3 :
    (L v σ m body past : ℕ) {p φ a b c l : ℕ} {d : Due} → φ ≡ 3
    → d ≡ command_due (Release v a) (with_phase (φ + 1) (own p φ a b c l)) → AlikeAt L v σ (own p φ a b c l) m (Stands.future body past) d
unfolding from next_from both due_if filled_from named_from task nth row_of spots moved_on own_past_item with_made with_kept with_phase weight makes
future_3 L v σ m body past {p} {φ} {a} {b} {c} {l} q f ed =
    told ed L v σ (own p φ a b c l) m (Stands.future body past) (λ g. f ∙ rw q refl)

pub future_4 :
    (L v σ m body past : ℕ) {p φ a b c l : ℕ} {d : Due} → φ ≡ 4
    → d ≡ command_due (Release v b) (idle_own past a) → AlikeAt L v σ (own p φ a b c l) m (Stands.future body past) d
unfolding idle_own from next_from both due_if filled_from named_from task nth row_of spots moved_on own_past_item with_made with_kept with_phase weight makes
future_4 L v σ m body past {p} {φ} {a} {b} {c} {l} q f ed =
    told ed L v σ (own p φ a b c l) m (Stands.future body past) (λ g. f ∙ rw q refl)

pub future_beyond :
    (L v σ m body past : ℕ) {p φ a b c l : ℕ} → (φ ≡ 0 → ⊥) → (φ ≡ 1 → ⊥) → (φ ≡ 2 → ⊥) → (φ ≡ 3 → ⊥) → (φ ≡ 4 → ⊥)
    → AlikeAt L v σ (own p φ a b c l) m (Stands.future body past) (refusal_due nothing_starts)
unfolding task row_of
future_beyond L v σ m body past {p} {φ} {a} {b} {c} {l} h0 h1 h2 h3 h4 ed =
    told ed L v σ (own p φ a b c l) m (Stands.future body past)
    (λ g. beyond v σ m g 0 (row_of ed futures) (spots body body past L) p φ a b c l (omega arith))

pub ruleset future_due = (future_0, future_1, future_2, future_3, future_4, future_beyond, refl)

-- a force: its second command follows words
pub force_0 :
    (L v σ m n past : ℕ) {p φ a b c l : ℕ} {d : Due} → φ ≡ 0
    → d ≡ command_due (NewTd v past σ) (with_phase (φ + 1) (with_made 0 m (own p φ a b c l))) → AlikeAt L v σ (own p φ a b c l) m (Stands.force n past) d
unfolding from next_from both due_if filled_from named_from task nth row_of spots moved_on own_past_item with_made with_kept with_phase weight makes
force_0 L v σ m n past {p} {φ} {a} {b} {c} {l} q f ed = told ed L v σ (own p φ a b c l) m (Stands.force n past) (λ g. f ∙ rw q refl)

-- the words followed from a vertex are those followed from its own
outwards_is : (s : Lent) (v n : ℕ) → followed s v n ≡ outwards s (latest s v) n
unfolding followed outwards
outwards_is s v zero = refl
outwards_is s v (suc n) = ap (λ (next : ℕ → Option ℕ). further (open_future s (latest s v)) next) (λ i t. outwards_is s t n i)

latest_is : (s : Lent) (v : ℕ) {p φ a b c l : ℕ} → own_of s v ≡ own p φ a b c l → latest s v ≡ l
unfolding own_of
latest_is s v h = cc

forced_is :
    (t : List ℕ) (m v n : ℕ) {o : Option ℕ} {p φ a b c l : ℕ} (s : Lent) → s.vertices ≡ t → own_of s v ≡ own p φ a b c l → s.made ≡ m
    → FollowsTo t m l n o → o ≡ followed s v n
forced_is t m v n s e h k to = to s e k ∙ sym (outwards_is s v n ∙ ap (λ (x : ℕ). outwards s x n) (latest_is s v h))

abbrev second : Edition → ℕ → ℕ → ℕ → ℕ → ℕ → ℕ → Own → Option ℕ → Due
second ed L v σ m n past w f =
    next_from v σ w m f (row_of ed forces) n (spots past past past L) (nth (row_of ed forces).commands 1)

second_found :
    (ed : Edition) (L v σ m n past p a b c l r : ℕ)
    → command_due (NewEdge v r a) (own p 2 a b c l) ≡ second ed L v σ m n past (own p 1 a b c l) (some r)
unfolding next_from both is_vertex or_zero due_if filled_from named_from nth row_of moved_on with_kept with_phase
second_found ed L v σ m n past p a b c l r = refl

second_lost : (ed : Edition) (L v σ m n past : ℕ) (w : Own) → refusal_due nothing_starts ≡ second ed L v σ m n past w none
unfolding next_from both is_vertex due_if nth row_of
second_lost ed L v σ m n past w = refl

pub force_found :
    (v : ℕ) {p φ a b c l r : ℕ} {o : Option ℕ} {d : Due} → φ ≡ 1 → o ≡ some r
    → d ≡ command_due (NewEdge v r a) (with_phase (φ + 1) (own p φ a b c l)) → ForceEdge v (own p φ a b c l) l o d
unfolding from task with_phase
force_found v {p} {φ} {a} {b} {c} {l} {r} q is f t L σ m n past to ed s k hw hσ hm =
    told_at ed L v σ (own p φ a b c l) m (Stands.force n past) s hw hσ hm
    (f
    ∙ rw q
    (second_found ed L v σ m n past p a b c l r
    ∙ ap (second ed L v σ m n past (own p 1 a b c l)) (sym is ∙ forced_is t m v n s k hw hm to)))

pub force_lost :
    (v : ℕ) {p φ a b c l : ℕ} {o : Option ℕ} → φ ≡ 1 → o ≡ none → ForceEdge v (own p φ a b c l) l o (refusal_due nothing_starts)
unfolding from task
force_lost v {p} {φ} {a} {b} {c} {l} q is t L σ m n past to ed s k hw hσ hm =
    told_at ed L v σ (own p φ a b c l) m (Stands.force n past) s hw hσ hm
    (rw q
    (second_lost ed L v σ m n past (own p 1 a b c l)
    ∙ ap (second ed L v σ m n past (own p 1 a b c l)) (sym is ∙ forced_is t m v n s k hw hm to)))

pub force_2 :
    (L v σ m n past : ℕ) {p φ a b c l : ℕ} {d : Due} → φ ≡ 2
    → d ≡ command_due (Transfer v a) (with_phase (φ + 1) (own p φ a b c l)) → AlikeAt L v σ (own p φ a b c l) m (Stands.force n past) d
unfolding from next_from both due_if filled_from named_from task nth row_of spots moved_on own_past_item with_made with_kept with_phase weight makes
force_2 L v σ m n past {p} {φ} {a} {b} {c} {l} q f ed = told ed L v σ (own p φ a b c l) m (Stands.force n past) (λ g. f ∙ rw q refl)

pub force_3 :
    (L v σ m n past : ℕ) {p φ a b c l : ℕ} {d : Due} → φ ≡ 3
    → d ≡ command_due (Release v a) (idle_own L l) → AlikeAt L v σ (own p φ a b c l) m (Stands.force n past) d
unfolding idle_own from next_from both due_if filled_from named_from task nth row_of spots moved_on own_past_item with_made with_kept with_phase weight makes
force_3 L v σ m n past {p} {φ} {a} {b} {c} {l} q f ed = told ed L v σ (own p φ a b c l) m (Stands.force n past) (λ g. f ∙ rw q refl)

pub force_beyond :
    (L v σ m n past : ℕ) {p φ a b c l : ℕ} → (φ ≡ 0 → ⊥) → (φ ≡ 1 → ⊥) → (φ ≡ 2 → ⊥) → (φ ≡ 3 → ⊥)
    → AlikeAt L v σ (own p φ a b c l) m (Stands.force n past) (refusal_due nothing_starts)
unfolding task row_of
force_beyond L v σ m n past {p} {φ} {a} {b} {c} {l} h0 h1 h2 h3 ed =
    told ed L v σ (own p φ a b c l) m (Stands.force n past)
    (λ g. beyond v σ m g n (row_of ed forces) (spots past past past L) p φ a b c l (omega arith))

pub ruleset force_due = (force_0, force_found, force_lost, force_2, force_3, force_beyond, refl)
