-- Refusals. A chain of tests gives 0 exactly if each test passes; a call is decided by such a chain: with 0 it says and leaves what
-- it is to say and to leave, with any other number it leaves everything as it was.
use Prim.Native.Nat.{ℕ, zero, suc}
use mathlib.Core.Path.{◌≡◌, refl, sym, ap, subst}
use mathlib.Core.Logic.{◌↔◌}
use mathlib.Core.Bool.{Bool, true, false}
use native.Mathlib.Omega.{arith}
use Rattle.graph.specs.Tables.{Lent}
use Rattle.graph.specs.Answers.{CommandSaid, accepted, unless, decided}
use Rattle.graph.proofs.TestLaws.{true-false}

-- a test that passes hands over to the rest
pub unless_pass : {b : Bool} (n rest : ℕ) → b ≡ true → unless b n rest ≡ rest
unfolding unless
unless_pass n rest p = subst (λ (x : Bool). unless x n rest ≡ rest) (sym p) refl

pub unless_stop : {b : Bool} (n rest : ℕ) → b ≡ false → unless b n rest ≡ n
unfolding unless
unless_stop n rest p = subst (λ (x : Bool). unless x n rest ≡ n) (sym p) refl

-- no refusal: this test passes, and the rest refuses nothing
pub unless_none : (b : Bool) (n rest : ℕ) → unless b (suc n) rest ≡ 0 → (b ≡ true) × (rest ≡ 0)
unfolding unless
unless_none true n rest h = (refl, h)
unless_none false n rest h = absurd (omega arith)

-- and back
pub unless_all : {b : Bool} {rest : ℕ} (n : ℕ) → b ≡ true → rest ≡ 0 → unless b n rest ≡ 0
unfolding unless
unless_all {b} {rest} n p q = subst (λ (x : Bool). unless x n rest ≡ 0) (sym p) q

-- a call that is accepted was refused by no test
pub decided_taken : (s : Lent) (r : ℕ) (said : CommandSaid) (after : Lent) → accepted (decided s r said after).answer ≡ true → r ≡ 0
unfolding decided
decided_taken s zero said after h = refl
decided_taken s (suc r) said after h = true-false h refl

-- with no refusal due it says and leaves what it is to
pub decided_is : (s : Lent) (r : ℕ) (said : CommandSaid) (after : Lent) → r ≡ 0 → decided s r said after ≡ record { answer = said; after = after }
unfolding decided
decided_is s zero said after p = refl
decided_is s (suc r) said after p = absurd (omega arith)

-- with a refusal due it leaves what was lent
pub decided_keeps :
    (s : Lent) (r : ℕ) (said : CommandSaid) (after : Lent) → accepted said ≡ true → accepted (decided s r said after).answer ≡ false
    → (decided s r said after).after ≡ s
unfolding decided
decided_keeps s zero said after p h = true-false p h
decided_keeps s (suc r) said after p h = refl

-- and is refused with its number, at 0
pub decided_refused :
    (s : Lent) (r : ℕ) (said : CommandSaid) (after : Lent) (n p : ℕ) → accepted said ≡ true
    → ((decided s r said after).answer ≡ CommandSaid.refused n p) ↔ ((r ≡ 0 → ⊥) × (r ≡ n) × (p ≡ 0))
unfolding decided
decided_refused s zero said after n p ok = (λ h. true-false ok (ap accepted h), λ h. absurd (h.0 refl))
decided_refused s (suc r) said after n p ok = (λ h. (λ z. omega arith, cc, cc), λ h. cc)

-- so what holds of what was lent, and of what the call is to leave, holds afterwards
pub decided_either : (P : Lent → Type 0) (s : Lent) (r : ℕ) (said : CommandSaid) (after : Lent) → P s → (r ≡ 0 → P after) → P (decided s r said after).after
unfolding decided
decided_either P s zero said after p q = q refl
decided_either P s (suc r) said after p q = p
