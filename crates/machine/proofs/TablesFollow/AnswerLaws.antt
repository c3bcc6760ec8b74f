-- A chain of tests before what is due (`due_if`): where each passes it is that, and where one fails it is a refusal.
use Prim.Native.Nat.{ℕ}
use mathlib.Core.Path.{◌≡◌, refl, sym, subst}
use mathlib.Core.Bool.{Bool, true, false}
use Rattle.graph.specs.Tables.{Lent}
use Rattle.graph.proofs.TestLaws.{true-false}
use Rattle.machine.specs.Answers.{accepted}
use Rattle.machine.specs.Stepping.{Due, refusal_due, due_if, do_due}

-- a test that passes hands over to the rest
pub if_pass : {b : Bool} (n : ℕ) (d : Due) → b ≡ true → due_if b n d ≡ d
unfolding due_if
if_pass n d p = subst (λ (x : Bool). due_if x n d ≡ d) (sym p) refl

-- one that fails refuses
pub if_stop : {b : Bool} (n : ℕ) (d : Due) → b ≡ false → due_if b n d ≡ refusal_due n
unfolding due_if
if_stop n d p = subst (λ (x : Bool). due_if x n d ≡ refusal_due n) (sym p) refl

-- what is accepted passed
pub if_passed :
    (s : Lent) (v : ℕ) (b : Bool) (n : ℕ) (d : Due) → accepted (do_due s v (due_if b n d)).answer ≡ true
    → (b ≡ true) × (accepted (do_due s v d).answer ≡ true)
unfolding due_if
if_passed s v true n d h = (refl, h)
if_passed s v false n d h = true-false h refl
