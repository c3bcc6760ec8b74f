-- The lowest number below n of which a test holds: what the search is told by its result, and the result by what holds.
use Prim.Native.Nat.{ℕ, zero, suc, ◌<◌}
use mathlib.Core.Path.{◌≡◌, refl, sym, ◌∙◌, ap, subst}
use mathlib.Core.Bool.{Bool, true, false}
use mathlib.Core.Logic.{◌⊎◌, inl, inr, ⊎_elim}
use mathlib.Core.Option.{Option, none, some}
use native.Mathlib.Nat.{eq-or-lt_of_le}
use native.Mathlib.Omega.{arith}
use lib.Dec.{ltb}
use borrow.Author.Tests.{ltb-true, ltb-false}
use Rattle.graph.specs.Tests.{or_this, lowest_below}
use Rattle.graph.proofs.TestLaws.{true-false, decide, below_suc}

-- which of two numbers is the lower one
pub order? : (x y : ℕ) → (x < y) ⊎ ((x ≡ y) ⊎ (y < x))
order? x y =
    ⊎_elim
    (λ l. inl (ltb-true x y l))
    (λ l. inr (⊎_elim (λ e. inl (sym e)) (λ g. inr g) (eq-or-lt_of_le (ltb-false x y l))))
    (decide (ltb x y))

-- What a search below n comes to: no number, or the lowest of which the test holds.
abbrev pub Finds : (ℕ → Bool) → ℕ → Option ℕ → Type 0
Finds p n none = (u : ℕ) → u < n → p u ≡ false
Finds p n (some v) = (p v ≡ true) × ((u : ℕ) → u < v → p u ≡ false)

-- one number more
or_finds : (p : ℕ → Bool) (n : ℕ) (x : Option ℕ) (b : Bool) → p n ≡ b → Finds p n x → Finds p (suc n) (or_this x b n)
unfolding or_this
or_finds p n (some v) b q f = f
or_finds p n none true q f = (q, f)
or_finds p n none false q f = λ u lt. ⊎_elim (λ e. ap p e ∙ q) (λ l. f u l) (below_suc lt)

-- so the search finds it
pub below_finds : (p : ℕ → Bool) (n : ℕ) → Finds p n (lowest_below p n)
unfolding lowest_below
below_finds p zero = λ u lt. absurd (omega arith)
below_finds p (suc n) = or_finds p n (lowest_below p n) (p n) refl (below_finds p n)

-- from the result
pub found_holds : (p : ℕ → Bool) (n x : ℕ) → lowest_below p n ≡ some x → p x ≡ true
found_holds p n x q = (subst (Finds p n) q (below_finds p n)).0

pub found_lowest : (p : ℕ → Bool) (n x : ℕ) → lowest_below p n ≡ some x → (y : ℕ) → y < x → p y ≡ false
found_lowest p n x q = (subst (Finds p n) q (below_finds p n)).1

pub none_holds : (p : ℕ → Bool) (n : ℕ) → lowest_below p n ≡ none → (y : ℕ) → y < n → p y ≡ false
none_holds p n q = subst (Finds p n) q (below_finds p n)

or_below : (n x : ℕ) (o : Option ℕ) (b : Bool) → ((y : ℕ) → o ≡ some y → y < n) → or_this o b n ≡ some x → x < suc n
unfolding or_this
or_below n x (some y) b h q = let l = h x q in omega arith
or_below n x none true h q = let e : n ≡ x = cc in omega arith
or_below n x none false h q = true-false refl cc

pub found_below : (p : ℕ → Bool) (n x : ℕ) → lowest_below p n ≡ some x → x < n
unfolding lowest_below
found_below p zero x q = true-false refl cc
found_below p (suc n) x q = or_below n x (lowest_below p n) (p n) (found_below p n) q

-- and to it
module _ (p : ℕ → Bool) (n : ℕ) where
  pub found_is : (x : ℕ) → x < n → p x ≡ true → ((y : ℕ) → y < x → p y ≡ false) → lowest_below p n ≡ some x
  found_is x lt holds lower = go (lowest_below p n) (below_finds p n)
    where
      go : (o : Option ℕ) → Finds p n o → o ≡ some x
      go none f = true-false holds (f x lt)
      go (some y) f =
          ⊎_elim
          (λ l. true-false f.0 (lower y l))
          (⊎_elim (λ e. ap some e) (λ l. true-false holds (f.1 x l)))
          (order? y x)

  pub none_is : ((y : ℕ) → y < n → p y ≡ false) → lowest_below p n ≡ none
  none_is fails = go (lowest_below p n) refl
    where
      go : (o : Option ℕ) → lowest_below p n ≡ o → o ≡ none
      go none q = refl
      go (some x) q = true-false (found_holds p n x q) (fails x (found_below p n x q))
