-- A shortest path has fewer edges than there are vertices. None stands on it twice, or it could be cut short, so there are as many as it
-- has edges, and one more. They are counted by a test, `on`: which vertices stand on a path.
use Prim.Native.Nat.{ℕ, zero, suc, ◌+◌, ◌≤◌, ◌<◌}
use mathlib.Core.Path.{◌≡◌, refl, subst}
use mathlib.Core.Bool.{Bool, true, false}
use mathlib.Core.Logic.{⊎_elim}
use native.Mathlib.Omega.{arith}
use lib.Dec.{eqb, ltb}
use borrow.Author.Tests.{eqb-true, eq-eqb, ltb-true, ltb-false}
use Rattle.graph.specs.Tests.{either}
use Rattle.graph.specs.Internal.Search.{Hops, here, hop}
use Rattle.graph.proofs.TestLaws.{true-false, decide, not_so, either_cases, either_left, either_right, below_suc}

bit : Bool → ℕ
bit true = 1
bit false = 0

bit_most : (b : Bool) → bit b ≤ 1
unfolding bit
bit_most true = omega arith
bit_most false = omega arith

bit_wider : (b c : Bool) → (b ≡ true → c ≡ true) → bit b ≤ bit c
unfolding bit
bit_wider true c h = rw (h refl) (omega arith)
bit_wider false c h = omega arith

bit_more : (b c : Bool) → b ≡ false → c ≡ true → bit b < bit c
unfolding bit
bit_more b c p q = rw p (rw q (omega arith))

-- of how many numbers below n a test holds
count : (ℕ → Bool) → ℕ → ℕ
count p zero = 0
count p (suc n) = bit (p n) + count p n

count_most : (p : ℕ → Bool) (n : ℕ) → count p n ≤ n
unfolding count
count_most p zero = omega arith
count_most p (suc n) = let b = bit_most (p n) in let m = count_most p n in omega arith

-- a test that holds where another does, and of a besides
module _ (p q : ℕ → Bool) (wider : (x : ℕ) → p x ≡ true → q x ≡ true) where
  count_wider : (n : ℕ) → count p n ≤ count q n
  unfolding count
  count_wider zero = omega arith
  count_wider (suc n) = let b = bit_wider (p n) (q n) (wider n) in let m = count_wider n in omega arith

  count_more : (a n : ℕ) → a < n → p a ≡ false → q a ≡ true → count p n < count q n
  unfolding count
  count_more a zero lt f t = absurd (omega arith)
  count_more a (suc n) lt f t =
      ⊎_elim
      (λ e.
      let b = bit_more (p n) (q n) (subst (λ (x : ℕ). p x ≡ false) e f) (subst (λ (x : ℕ). q x ≡ true) e t) in
      let m = count_wider n in
      omega arith)
      (λ l. let b = bit_wider (p n) (q n) (wider n) in let m = count_more a n l f t in omega arith)
      (below_suc lt)

-- no path from a to b has fewer than d edges
abbrev pub NoneShorter : (ℕ → ℕ → Bool) → ℕ → ℕ → ℕ → Type 0
NoneShorter E d a b = (k : ℕ) → k < d → Hops E k a b → ⊥

module _ {E : ℕ → ℕ → Bool} where
  pub at_least : {d k a b : ℕ} → NoneShorter E d a b → Hops E k a b → d ≤ k
  at_least {d} {k} least h = ⊎_elim (λ l. absurd (least k (ltb-true k d l) h)) (λ l. ltb-false k d l) (decide (ltb k d))

  -- x stands on the path
  on : {k a b : ℕ} → Hops E k a b → ℕ → Bool
  on (here {a = a}) x = eqb a x
  on (hop {a = a} e h) x = either (eqb a x) (on h x)

  -- so the path goes on from it
  from_there : {k a b : ℕ} (h : Hops E k a b) (x : ℕ) → on h x ≡ true → (j : ℕ) × (j ≤ k) × Hops E j x b
  unfolding on
  from_there (here {a = a}) x q = (0, omega arith, subst (λ (y : ℕ). Hops E 0 y a) (eqb-true a x q) here)
  from_there (hop {k = k} {a = a} {c = c} e h) x q =
      ⊎_elim
      (λ r. (suc k, omega arith, subst (λ (y : ℕ). Hops E (suc k) y c) (eqb-true a x r) (hop e h)))
      (λ r. let (j, le, g) = from_there h x r in (j, omega arith, g))
      (either_cases _ _ q)

  module _ (n : ℕ) (made : (x y : ℕ) → E x y ≡ true → y < n) where
    on_many : {d a b : ℕ} → a < n → (h : Hops E d a b) → NoneShorter E d a b → d < count (on h) n
    unfolding on
    on_many lt (here {a = a}) least =
        let one = count_more (λ x. false) (on (here {a = a})) (λ x q. true-false q refl) a n lt refl (eq-eqb a a refl) in
        omega arith
    on_many lt (hop {k = k} {a = a} {b = b} {c = c} e h) least =
        let many = on_many (made a b e) h (λ j l g. least (suc j) (omega arith) (hop e g)) in
        let new : on h a ≡ false = not_so _ (λ q. let (j, le, g) = from_there h a q in least j (omega arith) g) in
        let one_more = count_more (on h) (on (hop e h)) (λ x q. either_right _ q) a n lt new (either_left _ (eq-eqb a a refl)) in
        omega arith

    pub short_path : {d a b : ℕ} → a < n → Hops E d a b → NoneShorter E d a b → d < n
    short_path lt h least = let many = on_many lt h least in let most = count_most (on h) n in omega arith
