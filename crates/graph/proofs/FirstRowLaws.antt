-- The rows at the front of a table, read as arrays: their words are the table's, and a test of each is a test of each row's number.
use Prim.Native.Nat.{ℕ, zero, suc, ◌+◌, ◌*◌, ◌/◌, ◌<◌, ◌≤◌}
use mathlib.Core.Path.{◌≡◌, refl, sym, ◌∙◌, ap}
use mathlib.Core.Bool.{Bool, true, false, ◌||◌}
use mathlib.Core.List.{List, []}
use native.Mathlib.Numerals.{add-one}
use native.Mathlib.Omega.{arith}
use lib.ListN.{length, get_or, take, drop}
use lib.Seq.{length-take-le}
use Rattle.std.specs.Simd.{first_chunks}
use Rattle.std.specs.List.{list_any}
use Rattle.std.proofs.Math.Nat.{mul-div_cancel_left}
use Rattle.std.proofs.lemmas.List.{get_or-take, get_or-drop, take_all}
use Rattle.std.proofs.lemmas.List.Folds.{list_any_more}
use Rattle.graph.specs.Tests.{either, any}
use Rattle.graph.specs.Internal.FirstRows.{FirstRows}

-- a row's last word is before the end of the n rows
pub row_within : (words n i : ℕ) → i < n → words * i + words ≤ words * n
row_within words zero i lt = absurd (omega arith)
row_within words (suc n) zero lt = omega arith
row_within words (suc n) (suc i) lt = let h = row_within words n i (omega arith) in omega arith

chunk_word :
    (words k : ℕ) (xs : List ℕ) (i w : ℕ) → i < k → w < words
    → get_or (get_or (first_chunks words k xs) i []) w 0 ≡ get_or xs (words * i + w) 0
chunk_word words zero xs i w lt lw = absurd (omega arith)
chunk_word words (suc k) xs zero w lt lw =
    get_or-take words xs w 0 lw ∙ ap (λ (n : ℕ). get_or xs n 0) (let z : w ≡ words * 0 + w = omega arith in z)
chunk_word words (suc k) xs (suc i) w lt lw =
    chunk_word words k (drop words xs) i w (omega arith) lw
    ∙ get_or-drop words xs (words * i + w) 0
    ∙ ap (λ (n : ℕ). get_or xs n 0) (let z : words + (words * i + w) ≡ words * suc i + w = omega arith in z)

pub rows_are :
    (words : ℕ) (table : List ℕ) (n : ℕ) {rows : List (List ℕ)} → 0 < words → words * n ≤ length table
    → rows ≡ first_chunks words (length (take (words * n) table) / words) (take (words * n) table)
    → length rows ≡ length (take (words * n) table) / words → FirstRows words table n rows
rows_are words table n {rows} pos fits p q =
    let front : List ℕ = take (words * n) table in
    let few : length front / words ≡ n =
    ap (λ (k : ℕ). k / words) (length-take-le (words * n) table fits) ∙ mul-div_cancel_left n pos in
    record {
      count = q ∙ few;
      word =
          λ i w lt lw.
          ap (λ (l : List (List ℕ)). get_or (get_or l i []) w 0) (p ∙ ap (λ (k : ℕ). first_chunks words k front) few)
          ∙ chunk_word words n front i w lt lw
          ∙ get_or-take (words * n) table (words * i + w) 0 (let h = row_within words n i lt in omega arith);
    }

turned : (a b : Bool) → b || a ≡ either a b
unfolding either
turned true true = refl
turned true false = refl
turned false true = refl
turned false false = refl

-- a test of the rows in turn
module _ (test : List ℕ → Bool) (p : ℕ → Bool) (rows : List (List ℕ)) (n : ℕ) (same : (i : ℕ) → i < n → test (get_or rows i []) ≡ p i) where
  any_front : (k : ℕ) → k ≤ n → k ≤ length rows → list_any test (take k rows) ≡ any p k
  unfolding any
  any_front zero h h' = refl
  any_front (suc k) h h' =
      ap (λ (m : ℕ). list_any test (take m rows)) (sym (add-one k))
      ∙ list_any_more test rows k [] (omega arith)
      ∙ rw (any_front k (omega arith) (omega arith), same k (omega arith)) (turned (p k) (any p k))

  pub any_of_rows : length rows ≡ n → list_any test rows ≡ any p n
  any_of_rows q = ap (list_any test) (sym (take_all n rows (omega arith))) ∙ any_front n (omega arith) (omega arith)
