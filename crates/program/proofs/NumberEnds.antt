-- Where a number ends, and which bytes of a program stand inside one: one law for each turn of the loops that look for it.
use Prim.Native.Nat.{ℕ, zero, suc, ◌+◌, ◌-◌, ◌*◌, ◌/◌, ◌%◌, ◌^◌, ◌<◌, ◌≤◌}
use mathlib.Core.Path.{◌≡◌, refl, sym, ap, subst, ◌∙◌}
use mathlib.Core.Bool.{Bool, true, false, not, beq, cond}
use mathlib.Core.List.{List, [], ◌∷◌, ◌++◌}
use native.Mathlib.Nat.{pow-suc}
use native.Mathlib.Omega.{arith}
use lib.Dec.{eqb, ltb, leb}
use lib.ListN.{length, get_or}
use borrow.Author.Tests.{lt-ltb, le-ltb, ltb-true, ltb-false, lt-leb, eqb-true, eq-eqb, ne_eqb}
use Rattle.std.specs.Prelude.{Option, Some, None, MatchOption, position}
use Rattle.std.specs.List.{position_or_len}
use Rattle.program.specs.Limits.{number_bytes, job_limit}
use Rattle.program.specs.Trees.{Body, largest}
use Rattle.program.specs.Bytes.{job_byte, force_byte, top_bit, group_bytes, encode_number, encode, number_size, size}
use Rattle.program.specs.Claims.{Encoding, encoding}
use Rattle.program.specs.Internal.Progress.{number_end, opens_number, in_number}
use Rattle.program.proofs.NumberLaws.{one_byte, more_bytes}
use Rattle.program.proofs.StartLaws.{starts_low}

-- a byte that is the last of its number
abbrev pub is_last : ℕ → Bool
is_last x = ltb x top_bit

-- the end of a number, by its first byte
end_stop : (x : ℕ) (left : List ℕ) → x < top_bit → number_end (x ∷ left) ≡ 1
unfolding number_end
end_stop x left lt = rw (lt-ltb x top_bit lt) refl

end_further : (x : ℕ) (left : List ℕ) → top_bit ≤ x → number_end (x ∷ left) ≡ suc (number_end left)
unfolding number_end
end_further x left le = rw (le-ltb x top_bit le) refl

-- it is behind the first byte that is the last of a number, or behind all bytes where none is
pub end_found : (xs : List ℕ) → position_or_len is_last xs < length xs → position_or_len is_last xs + 1 ≡ number_end xs
unfolding number_end
end_found [] lt = absurd (omega arith)
end_found (x ∷ left) lt = go (is_last x) (λ less. end_found left less) lt
  where
    go :
        (t : Bool) → (position_or_len is_last left < length left → position_or_len is_last left + 1 ≡ number_end left) → cond (not t) (1 + position_or_len is_last left) 0 < suc (length left)
        → cond (not t) (1 + position_or_len is_last left) 0 + 1 ≡ cond t 1 (suc (number_end left))
    go true later lt = refl
    go false later lt = omega (arith, later (omega arith))

pub end_nowhere : (xs : List ℕ) → length xs ≤ position_or_len is_last xs → length xs ≡ number_end xs
unfolding number_end
end_nowhere [] le = refl
end_nowhere (x ∷ left) le = go (is_last x) (λ more. end_nowhere left more) le
  where
    go :
        (t : Bool) → (length left ≤ position_or_len is_last left → length left ≡ number_end left) → suc (length left) ≤ cond (not t) (1 + position_or_len is_last left) 0
        → suc (length left) ≡ cond t 1 (suc (number_end left))
    go true later le = absurd (omega arith)
    go false later le = omega (arith, later (omega arith))

-- so for what `position` finds
pub end_by_position :
    (xs : List ℕ) (r : Option ℕ) → r ≡ position is_last xs → MatchOption r (length xs ≡ number_end xs) (λ i. i + 1 ≡ number_end xs)
end_by_position xs r is =
    subst (λ (o : Option ℕ). MatchOption o (length xs ≡ number_end xs) (λ i. i + 1 ≡ number_end xs)) (sym is)
    (go (ltb (position_or_len is_last xs) (length xs)) refl)
  where
    go :
        (t : Bool) → ltb (position_or_len is_last xs) (length xs) ≡ t
        → MatchOption (cond t (Some (position_or_len is_last xs)) None) (length xs ≡ number_end xs) (λ i. i + 1 ≡ number_end xs)
    go true e = end_found xs (ltb-true _ _ e)
    go false e = end_nowhere xs (ltb-false _ _ e)

-- one group more: the groups end with the first byte, or where the others do
groups_further :
    (room n : ℕ) (rest : List ℕ) (last : Bool) → ltb n top_bit ≡ last
    → (top_bit ≤ n → number_end (group_bytes room (n / top_bit) ++ rest) ≡ length (group_bytes room (n / top_bit)))
    → number_end (group_bytes (suc room) n ++ rest) ≡ length (group_bytes (suc room) n)
groups_further room n rest true is h = let lt = ltb-true n top_bit is in rw (one_byte room n lt) (end_stop n rest lt)
groups_further room n rest false is h =
    let le = ltb-false n top_bit is in
    rw (more_bytes room n le) (end_further (top_bit + n % top_bit) (group_bytes room (n / top_bit) ++ rest) (omega arith) ∙ ap suc (h le))

-- where there is room for a number, its groups end with its last byte
groups_end :
    (room n : ℕ) (rest : List ℕ) → n < top_bit ^ suc room
    → number_end (group_bytes (suc room) n ++ rest) ≡ length (group_bytes (suc room) n)
groups_end zero n rest lt =
    groups_further zero n rest _ refl (λ le. let one : top_bit ^ suc zero ≡ top_bit = refl in absurd (omega arith))
groups_end (suc room) n rest lt =
    let more : top_bit ^ suc (suc room) ≡ top_bit ^ suc room * top_bit = pow-suc top_bit (suc room) in
    groups_further (suc room) n rest _ refl (λ le. groups_end room (n / top_bit) rest (omega arith))

-- a number within the limit ends where its bytes do
pub number_end_lem : (n : ℕ) (rest : List ℕ) → n ≤ job_limit → number_end (encode_number n ++ rest) ≡ number_size n
unfolding encode_number number_size
number_end_lem n rest le = groups_end (number_bytes - 1) n rest (omega arith)

-- the first byte stands outside
pub inside_none : (xs : List ℕ) → false ≡ in_number xs 0
unfolding in_number
inside_none xs = refl

-- a byte that a number stands behind is a job's first, or else a force's
pub opens_job : (x : ℕ) → x ≡ job_byte → eqb x job_byte ≡ opens_number x
unfolding opens_number
opens_job x is = rw (eq-eqb x job_byte is) refl

pub opens_force : (x : ℕ) → (x ≡ job_byte → ⊥) → eqb x force_byte ≡ opens_number x
unfolding opens_number
opens_force x other = rw (ne_eqb x job_byte other) refl

-- both have their top bit clear
opens_low : (x : ℕ) → opens_number x ≡ true → leb top_bit x ≡ false
unfolding opens_number
opens_low x h = go (eqb x job_byte) refl h
  where
    go : (t : Bool) → eqb x job_byte ≡ t → cond t true (eqb x force_byte) ≡ true → leb top_bit x ≡ false
    go true e h = let q : x ≡ job_byte = eqb-true x job_byte e in lt-leb top_bit x (omega arith)
    go false e h = let q : x ≡ force_byte = eqb-true x force_byte h in lt-leb top_bit x (omega arith)

-- behind such a byte one stands inside a number where that byte does not
inside_opened : (xs : List ℕ) (i : ℕ) → opens_number (get_or xs i 0) ≡ true → in_number xs (suc i) ≡ not (in_number xs i)
unfolding in_number
inside_opened xs i e = rw (opens_low (get_or xs i 0) e, e) (go (in_number xs i))
  where
    go : (t : Bool) → cond t false true ≡ not t
    go true = refl
    go false = refl

-- behind any other byte of a program, where that byte has its top bit set
inside_other :
    (b : Body) (i : ℕ) → largest b ≤ job_limit → i < size b → opens_number (get_or (encode b) i 0) ≡ false
    → in_number (encode b) (suc i) ≡ leb top_bit (get_or (encode b) i 0)
unfolding in_number
inside_other b i l lt other = go (in_number (encode b) i) refl
  where
    x : ℕ
    x = get_or (encode b) i 0

    go : (t : Bool) → in_number (encode b) i ≡ t → cond (in_number (encode b) i) (leb top_bit x) (opens_number x) ≡ leb top_bit x
    go true e = ap (λ (t : Bool). cond t (leb top_bit x) (opens_number x)) e
    go false e =
        ap (λ (t : Bool). cond t (leb top_bit x) (opens_number x)) e ∙ other ∙ sym (lt-leb top_bit x (starts_low b i l lt e))

-- The byte at i tells whether the one at a place stands inside a number: as it does itself, or where `turned` the other way round.
pub record ToldBy (xs : List ℕ) (place i : ℕ) (turned : Bool) : Type 0 where
  pub told : in_number xs place ≡ cond turned (not (in_number xs i)) (in_number xs i)

-- the byte at the place does
pub told_here : {xs : List ℕ} {place : ℕ} → ToldBy xs place place false
told_here = record { told = refl }

-- one byte back that is a job's first or a force's, or itself the last of a number
pub told_before :
    {xs : List ℕ} {place i : ℕ} {turned : Bool} → ToldBy xs place i turned → 0 < i → opens_number (get_or xs (i - 1) 0) ≡ true
    → ToldBy xs place (i - 1) (not turned)
told_before {xs} {place} {i} {turned} h lt e =
    let q : i ≡ suc (i - 1) = omega arith in
    record {
      told =
          h.told
          ∙ ap (λ (t : Bool). cond turned (not t) t) (ap (in_number xs) q ∙ inside_opened xs (i - 1) e)
          ∙ go turned (in_number xs (i - 1));
    }
  where
    go : (s t : Bool) → cond s (not (not t)) (not t) ≡ cond (not s) (not t) t
    go true true = refl
    go true false = refl
    go false true = refl
    go false false = refl

-- the byte before is any other
pub told_other :
    {xs : List ℕ} {place i : ℕ} {turned : Bool} → ToldBy xs place i turned → Encoding xs → 0 < i → i ≤ length xs
    → opens_number (get_or xs (i - 1) 0) ≡ false → not (beq turned (leb top_bit (get_or xs (i - 1) 0))) ≡ in_number xs place
unfolding size
told_other {xs} {place} {i} {turned} h (encoding b fits forced same) lt le other =
    let q : i ≡ suc (i - 1) = omega arith in
    let long : length xs ≡ length (encode b) = ap length same in
    let last : in_number xs i ≡ leb top_bit (get_or xs (i - 1) 0)
    = ap (in_number xs) q
    ∙ subst (λ (l : List ℕ). in_number l (suc (i - 1)) ≡ leb top_bit (get_or l (i - 1) 0)) (sym same)
    (inside_other b (i - 1) fits.numbers (omega arith) (subst (λ (l : List ℕ). opens_number (get_or l (i - 1) 0) ≡ false) same other)) in
    go turned (leb top_bit (get_or xs (i - 1) 0)) ∙ ap (λ (t : Bool). cond turned (not t) t) (sym last) ∙ sym h.told
  where
    go : (s t : Bool) → not (beq s t) ≡ cond s (not t) t
    go true true = refl
    go true false = refl
    go false true = refl
    go false false = refl

-- no byte is before
pub told_first :
    {xs : List ℕ} {place i : ℕ} {turned : Bool} → ToldBy xs place i turned → i ≤ 0 → turned ≡ in_number xs place
told_first {xs} {place} {i} {turned} h le =
    let q : i ≡ 0 = omega arith in
    go turned ∙ ap (λ (t : Bool). cond turned (not t) t) (inside_none xs ∙ ap (in_number xs) (sym q)) ∙ sym h.told
  where
    go : (s : Bool) → s ≡ cond s (not false) false
    go true = refl
    go false = refl
