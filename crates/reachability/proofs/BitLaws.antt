-- The bits of a word: of a union, of an intersection, and of a flag, which has one bit.
use Prim.Native.Nat.{ℕ, suc, ◌+◌, ◌-◌, ◌*◌, ◌/◌, ◌%◌, ◌^◌, ◌<◌, min, max}
use mathlib.Core.Path.{◌≡◌, sym, ◌∙◌, ap, subst}
use mathlib.Core.Bool.{true, false}
use mathlib.Core.Logic.{◌⊎◌, inl, inr}
use native.Mathlib.Omega.{arith}
use native.Mathlib.Nat.{one-mul, zero-div}
use lib.Dec.{ltb}
use borrow.Author.Tests.{ltb-true, ltb-false}
use lib.Bits.{bit_and, bit_or, or_shr, and_shr, or_step, and_step, shifted_even}
use lib.Pow.{shl_exact, shl-shr, shr_lt, pow-add, pow-lt}
use Rattle.graph.proofs.TestLaws.{equal?, decide}
use Rattle.reachability.specs.Marks.{Has}

abbrev bit : ℕ → ℕ → ℕ
bit i w = (w / 2 ^ i) % 2

lowest : (x m : ℕ) → m < 2 → (x * 2 + m) % 2 ≡ m
lowest x m h = omega arith

or_lowest : (a b : ℕ) → bit_or a b % 2 ≡ max (a % 2) (b % 2)
or_lowest a b = ap (λ (x : ℕ). x % 2) (or_step a b) ∙ lowest (bit_or (a / 2) (b / 2)) (max (a % 2) (b % 2)) (omega arith)

and_lowest : (a b : ℕ) → bit_and a b % 2 ≡ min (a % 2) (b % 2)
and_lowest a b = ap (λ (x : ℕ). x % 2) (and_step a b) ∙ lowest (bit_and (a / 2) (b / 2)) (min (a % 2) (b % 2)) (omega arith)

bit_or_lem : (i a b : ℕ) → bit i (bit_or a b) ≡ max (bit i a) (bit i b)
bit_or_lem i a b = ap (λ (x : ℕ). x % 2) (or_shr a b i) ∙ or_lowest (a / 2 ^ i) (b / 2 ^ i)

bit_and_lem : (i a b : ℕ) → bit i (bit_and a b) ≡ min (bit i a) (bit i b)
bit_and_lem i a b = ap (λ (x : ℕ). x % 2) (and_shr a b i) ∙ and_lowest (a / 2 ^ i) (b / 2 ^ i)

one_of : (m p q : ℕ) → m ≡ max p q → m ≡ 1 → (p ≡ 1) ⊎ (q ≡ 1)
one_of m p q e h = pick (equal? p 1)
  where
    pick : (p ≡ 1) ⊎ (p ≡ 1 → ⊥) → (p ≡ 1) ⊎ (q ≡ 1)
    pick (inl y) = inl y
    pick (inr n) = inr (omega arith)

pub has_or : {i : ℕ} (a b : ℕ) → Has i (bit_or a b) → Has i a ⊎ Has i b
has_or {i} a b h = pick (one_of (bit i (bit_or a b)) (bit i a) (bit i b) (bit_or_lem i a b) h.set)
  where
    pick : (bit i a ≡ 1) ⊎ (bit i b ≡ 1) → Has i a ⊎ Has i b
    pick (inl p) = inl (record { set = p })
    pick (inr p) = inr (record { set = p })

pub or_has_left : {i a : ℕ} (b : ℕ) → Has i a → Has i (bit_or a b)
or_has_left {i} {a} b h = record { set = omega (arith, bit_or_lem i a b, h.set) }

pub or_has_right : {i b : ℕ} (a : ℕ) → Has i b → Has i (bit_or a b)
or_has_right {i} {b} a h = record { set = omega (arith, bit_or_lem i a b, h.set) }

pub and_has : {i a b : ℕ} → Has i a → Has i b → Has i (bit_and a b)
and_has {i} {a} {b} h k = record { set = omega (arith, bit_and_lem i a b, h.set, k.set) }

-- a word has no bit from its length on
short : (i w : ℕ) → w < 2 ^ i → w / 2 ^ i ≡ 0
short i w h = let z : w / 2 ^ i < 1 = shr_lt 0 i (subst (λ (x : ℕ). w < 2 ^ x) (omega arith) h) in omega arith

pub zero_has : {i : ℕ} → Has i 0 → ⊥
zero_has {i} h = omega (arith, h.set, zero-div (2 ^ i))

-- the flag of pair n, as it is made
abbrev pub flag : ℕ → ℕ
flag n = (1 * 2 ^ n) % 18446744073709551616

flag_is : (n : ℕ) → n < 64 → flag n ≡ 2 ^ n
flag_is n h = shl_exact {a = 1} 1 n 64 (omega arith) (omega arith) ∙ one-mul (2 ^ n)

pub flag_has : {n : ℕ} → n < 64 → Has n (flag n)
flag_has {n} h =
    record { set = ap (λ (x : ℕ). (x / 2 ^ n) % 2) (flag_is n h ∙ sym (one-mul (2 ^ n))) ∙ ap (λ (x : ℕ). x % 2) (shl-shr 1 n) }

-- no other bit: those below are even, and from the next on nothing is left
below_flag : (i n : ℕ) → i < n → bit i (2 ^ n) ≡ 0
below_flag i n h =
    let k = n - suc i in
    let e : n ≡ suc k + i = omega arith in
    ap (λ (x : ℕ). (2 ^ x / 2 ^ i) % 2) e
    ∙ ap (λ (x : ℕ). (x / 2 ^ i) % 2) (pow-add 2 (suc k) i)
    ∙ ap (λ (x : ℕ). x % 2) (shl-shr (2 ^ suc k) i ∙ sym (one-mul (2 ^ suc k)))
    ∙ shifted_even 1 k

above_flag : (i n : ℕ) → n < i → bit i (2 ^ n) ≡ 0
above_flag i n h = ap (λ (x : ℕ). x % 2) (short i (2 ^ n) (pow-lt h))

pub has_flag : {i n : ℕ} → n < 64 → Has i (flag n) → i ≡ n
has_flag {i} {n} lt h = pick (equal? i n) (decide (ltb i n))
  where
    one : bit i (2 ^ n) ≡ 1
    one = ap (bit i) (sym (flag_is n lt)) ∙ h.set

    pick : (i ≡ n) ⊎ (i ≡ n → ⊥) → (ltb i n ≡ true) ⊎ (ltb i n ≡ false) → i ≡ n
    pick (inl y) d = y
    pick (inr ne) (inl p) = absurd (omega (arith, one, below_flag i n (ltb-true i n p)))
    pick (inr ne) (inr p) = let le = ltb-false i n p in absurd (omega (arith, one, above_flag i n (omega arith)))
