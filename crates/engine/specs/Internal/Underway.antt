-- A step under way: what is due, from a vertex's own words, and which vertex is looked at.
use Rattle.std.specs.Prelude.{ℕ, zero, suc, ◌-◌, ◌≡◌, Bool, true, false, cond, List, eqb, ltb, length}
use Rattle.std.proofs.Math.Option.{Option, none, some}
use Rattle.graph.specs.Tests.{both}
use Rattle.graph.specs.Tables.{Lent, RELEASED, status, in_count}
use Rattle.graph.specs.Answers as of_graph
use Rattle.graph.specs.Commands.{command}
use Rattle.program.specs.declared.Edition.{Edition}
use Rattle.program.specs.Answers.{Stands}
use Rattle.program.specs.Located.{item_at}
use Rattle.machine.specs.Answers.{StepSaid}
use Rattle.machine.specs.Stepping.{scope, place, latest, open_future, further, task, Own, own, own_of, Due, refusal_due, job_due, command_due}
use Rattle.machine.specs.Stepping.{next_at, due}
use Rattle.machine.specs.Traces.{Stepped}

-- in an edition, d is due at the step of the executing vertex v with the scope σ and these own words, where so many vertices are made, the
-- program's last byte is at L, and this stands at v's place
abbrev pub NextAt : Edition → ℕ → ℕ → ℕ → Own → ℕ → Stands → Due → Type 0
NextAt ed L v σ w made item d = (s : Lent) → own_of s v ≡ w → scope s v ≡ σ → s.made ≡ made → d ≡ next_at s v (task ed L item)

-- the same where t are the vertex rows: a force follows words of other vertices
abbrev pub NextIn : Edition → List ℕ → ℕ → ℕ → ℕ → Own → ℕ → Stands → Due → Type 0
NextIn ed t L v σ w made item d =
    (s : Lent) → s.vertices ≡ t → own_of s v ≡ w → scope s v ≡ σ → s.made ≡ made → d ≡ next_at s v (task ed L item)

-- and of a program
abbrev pub Next : Edition → List ℕ → List ℕ → ℕ → ℕ → Own → ℕ → Due → Type 0
Next ed bytes t v σ w made d =
    (s : Lent) → s.vertices ≡ t → own_of s v ≡ w → scope s v ≡ σ → s.made ≡ made
    → d ≡ next_at s v (task ed (length bytes - 1) (item_at ed bytes (place s v)))

-- all items but a fork are alike in both editions
abbrev pub AlikeAt : ℕ → ℕ → ℕ → Own → ℕ → Stands → Due → Type 0
AlikeAt L v σ w made item d = (ed : Edition) → NextAt ed L v σ w made item d

abbrev pub AlikeIn : List ℕ → ℕ → ℕ → ℕ → Own → ℕ → Stands → Due → Type 0
AlikeIn t L v σ w made item d = (ed : Edition) → NextIn ed t L v σ w made item d

-- the future that a word names, or so many futures further out
unfoldable pub outwards : Lent → ℕ → ℕ → Option ℕ
outwards s word zero = open_future s word
outwards s word (suc n) = further (open_future s word) (λ t. outwards s (latest s t) n)

-- the same of a word alone, where so many vertices are made
unfoldable pub named_future : ℕ → ℕ → Option ℕ
named_future made word = cond (both (ltb 0 word) (ltb word made)) (some word) none

-- o is the future that is so many futures further out than the one that a word names, where t are the vertex rows and so many are made
abbrev pub FollowsTo : List ℕ → ℕ → ℕ → ℕ → Option ℕ → Type 0
FollowsTo t made word n o = (s : Lent) → s.vertices ≡ t → s.made ≡ made → o ≡ outwards s word n

-- d is due at a force's newEdge where the vertex's word is l, if o is what is forced
abbrev pub ForceEdge : ℕ → Own → ℕ → Option ℕ → Due → Type 0
ForceEdge v w l o d = (t : List ℕ) (L σ made n past : ℕ) → FollowsTo t made l n o → AlikeIn t L v σ w made (Stands.force n past) d

-- w are vertex k's own words in a table
abbrev pub OwnIn : List ℕ → ℕ → Own → Type 0
OwnIn t k w = (s : Lent) → s.vertices ≡ t → w ≡ own_of s k

-- the own words of a vertex with no item under way
unfoldable pub idle_own : (place latest : ℕ) → Own
idle_own place latest = own place 0 0 0 0 latest

-- d is due at the step of the executing vertex v, where these are the vertex rows and so many are made
abbrev pub DueThere : Edition → List ℕ → List ℕ → ℕ → ℕ → Due → Type 0
DueThere ed bytes t made v d =
    (s : Lent) → s.vertices ≡ t → s.made ≡ made → d ≡ next_at s v (task ed (length bytes - 1) (item_at ed bytes (place s v)))

-- d is due at the step of v, in some edition and program
pub data IsDue (s : Lent) (v : ℕ) (d : Due) : Type 0 where
  is_due : (ed : Edition) (bytes : List ℕ) → d ≡ due ed bytes s v → IsDue s v d

-- what is due was done: this is the step, in every edition and program where d is due
abbrev pub DoesDue : Lent → ℕ → Due → StepSaid → Lent → Type 0
DoesDue s v d answer after = (ed : Edition) (bytes : List ℕ) → d ≡ due ed bytes s v → Stepped ed bytes s v answer after

-- a start was due and done: this is the step, in every edition and program
abbrev pub Starts : Lent → ℕ → StepSaid → Lent → Type 0
Starts s v answer after = (ed : Edition) (bytes : List ℕ) → Stepped ed bytes s v answer after

-- what is due would be accepted
unfoldable pub takes : Lent → Due → Bool
takes s (refusal_due n) = false
takes s (job_due n o w) = true
takes s (command_due c w) = of_graph.accepted (command c s).answer

-- vertex k is released, and its word says that no edge leads into it
unfoldable pub may_start : List ℕ → ℕ → Bool
may_start t k = both (eqb (status t k) RELEASED) (eqb (in_count t k) 0)

-- by the kind of item; what does not matter there is left open
abbrev pub EndNext : ℕ → Own → Due → Type 0
EndNext v w d = (L σ made : ℕ) → AlikeAt L v σ w made Stands.end d

abbrev pub JobNext : ℕ → Own → ℕ → ℕ → Due → Type 0
JobNext v w n past d = (L σ made : ℕ) → AlikeAt L v σ w made (Stands.job n past) d

abbrev pub AsyncNext : ℕ → ℕ → Own → ℕ → ℕ → ℕ → Due → Type 0
AsyncNext v σ w made body past d = (L : ℕ) → AlikeAt L v σ w made (Stands.async body past) d

abbrev pub ForkNext : Edition → ℕ → ℕ → Own → ℕ → ℕ → ℕ → ℕ → Due → Type 0
ForkNext ed v σ w made left right past d = (L : ℕ) → NextAt ed L v σ w made (Stands.fork left right past) d
