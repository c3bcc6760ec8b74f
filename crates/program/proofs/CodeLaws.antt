-- What each path through the small functions comes to: the end of a number, and one more item counted.
use Prim.Native.Nat.{ℕ, ◌+◌, ◌<◌, ◌≤◌}
use mathlib.Core.Path.{◌≡◌, refl, sym, ◌∙◌, ap}
use mathlib.Core.Bool.{Bool, true, false, cond}
use mathlib.Core.Logic.{◌⊎◌, ⊎_elim}
use native.Mathlib.Omega.{arith}
use lib.Dec.{eqb, ltb}
use borrow.Author.Tests.{lt-ltb, le-ltb, le-leb, lt-leb, eq-eqb, ne_eqb}
use Rattle.program.specs.declared.ItemCounts.{ItemCounts}
use Rattle.program.specs.Limits.{job_limit}
use Rattle.program.specs.Trees.{Counts}
use Rattle.refusal.specs.Refusals.{number_malformed, job_too_large}
use Rattle.program.specs.Answers.{item_counts}
use Rattle.program.specs.Internal.Progress.{NumberProgress, value, number_ended}

-- what a test that holds chooses
pub cond_yes : {A : Type 0} {b : Bool} (x y : A) → b ≡ true → x ≡ cond b x y
cond_yes x y p = ap (λ (t : Bool). cond t x y) (sym p)

-- what a test that fails chooses
pub cond_no : {A : Type 0} {b : Bool} (x y : A) → b ≡ false → y ≡ cond b x y
cond_no x y p = ap (λ (t : Bool). cond t x y) (sym p)

-- a number's last group that is its only one, or is not 0
shortest : (others last : ℕ) {P Q : Type 0} → P ⊎ Q → (P → others ≡ 0) → (Q → last ≡ 0 → ⊥) → cond (eqb others 0) true (ltb 0 last) ≡ true
shortest others last came only more =
    ⊎_elim (λ p. sym (cond_yes true (ltb 0 last) (eq-eqb others 0 (only p)))) (λ q. go (eqb others 0) (more q)) came
  where
    go : (b : Bool) → (last ≡ 0 → ⊥) → cond b true (ltb 0 last) ≡ true
    go true ne = refl
    go false ne = lt-ltb 0 last (omega arith)

-- a number that is not shortest
pub not_shortest : (place : ℕ) (seen : Counts) (n last others : ℕ) → last ≡ 0 → (others ≡ 0 → ⊥)
    → NumberProgress.stopped number_malformed place ≡ number_ended place seen n last others
unfolding number_ended
not_shortest place seen n last others p q =
    cond_no _ _ (sym (cond_no true (ltb 0 last) (ne_eqb others 0 q)) ∙ le-ltb 0 last (omega arith))

-- a number above the limit
pub too_large : (place : ℕ) (seen : Counts) (n last others : ℕ) {P Q : Type 0} → P ⊎ Q → (P → others ≡ 0) → (Q → last ≡ 0 → ⊥)
    → job_limit < n
    → NumberProgress.stopped job_too_large place ≡ number_ended place seen n last others
unfolding number_ended
too_large place seen n last others came only more lt = cond_no _ _ (lt-leb n job_limit lt)
    ∙ cond_yes _ _ (shortest others last came only more)

-- a number within the limit
pub within_limit : (place : ℕ) (seen : ItemCounts) (n last others past : ℕ) (after : ItemCounts) {P Q : Type 0}
    → P ⊎ Q → (P → others ≡ 0) → (Q → last ≡ 0 → ⊥) → n ≤ job_limit → (past ≡ place + (others + 1)) × (after ≡ seen)
    → value n past (item_counts after) ≡ number_ended place (item_counts seen) n last others
unfolding number_ended
within_limit place seen n last others past after came only more le h =
    (λ i. value n (h.0 i) (item_counts (h.1 i)))
    ∙ cond_yes _ _ (le-leb n job_limit le)
    ∙ cond_yes _ _ (shortest others last came only more)
