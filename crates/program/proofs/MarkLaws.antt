-- Marks for the places of a program: one law for each turn of the loop that sets them, and what the marks tell then.
use Prim.Native.Nat.{ℕ, zero, suc, ◌<◌, ◌≤◌}
use mathlib.Core.Path.{◌≡◌, refl, sym, ap, ◌∙◌}
use mathlib.Core.Bool.{Bool, true, false, not, cond}
use mathlib.Core.List.{List, [], ◌∷◌}
use mathlib.Core.Logic.{◌≢◌}
use native.Mathlib.Omega.{arith}
use lib.Dec.{eqb, ltb}
use lib.ListN.{length, get_or, set, replicate, length-set, get_or-replicate}
use lib.Seq.{get_or-set_same, get_or-set_other}
use borrow.Author.Tests.{eqb-true, eqb-false, lt-ltb, le-ltb, ltb-true, ltb-false}
use Rattle.program.specs.Internal.Progress.{in_number}

-- marks that are all 0 have 0 at each place
pub zero_at : (marks : List ℕ) → marks ≡ replicate (length marks) 0 → (p : ℕ) → p < length marks → get_or marks p 0 ≡ 0
zero_at marks zeros p lt = ap (λ l. get_or l p 0) zeros ∙ get_or-replicate (length marks) p 0 0 lt

-- there is nothing to set behind the last one
pub set_beyond : (marks : List ℕ) (p x : ℕ) → length marks ≤ p → marks ≡ set marks p x
set_beyond [] p x le = refl
set_beyond (m ∷ marks) zero x le = absurd (omega arith)
set_beyond (m ∷ marks) (suc p) x le = ap (λ (l : List ℕ). m ∷ l) (set_beyond marks p x (omega arith))

-- what the mark of a place is to be, by whether it is inside a number
unfoldable pub byte_mark : List ℕ → ℕ → ℕ
byte_mark xs p = cond (ltb p (length xs)) (cond (in_number xs p) 0 1) 0

-- behind the last byte
pub mark_behind : (xs : List ℕ) (p : ℕ) → length xs ≤ p → 0 ≡ byte_mark xs p
unfolding byte_mark
mark_behind xs p le = rw (le-ltb p (length xs) le) refl

-- and at a byte
pub mark_byte : (xs : List ℕ) (p : ℕ) (inside : Bool) → p < length xs → inside ≡ in_number xs p → cond (not inside) 1 0 ≡ byte_mark xs p
unfolding byte_mark
mark_byte xs p inside lt h = rw (lt-ltb p (length xs) lt, sym h) (go inside)
  where
    go : (t : Bool) → ◌≡◌ {A = ℕ} (cond (not t) 1 0) (cond t 0 1)
    go true = refl
    go false = refl

-- marks of 1 at the places before i that are outside the numbers of these bytes, and 0 elsewhere
abbrev pub Marked : List ℕ → List ℕ → ℕ → Type 0
Marked xs marks i = (p : ℕ) → p < length marks → get_or marks p 0 ≡ cond (ltb p i) (cond (in_number xs p) 0 1) 0

-- before the first mark
pub marked_none : (xs marks : List ℕ) → marks ≡ replicate (length marks) 0 → Marked xs marks 0
marked_none xs marks zeros p lt = zero_at marks zeros p lt ∙ rw (le-ltb p 0 (omega arith)) refl

-- one mark more, at a place outside that only places inside a number follow up to j
pub marked_more :
    (xs marks : List ℕ) (i j : ℕ) → Marked xs marks i → in_number xs i ≡ false → i < j
    → ((q : ℕ) → i < q → q < j → in_number xs q ≡ true) → Marked xs (set marks i 1) j
marked_more xs marks i j m out lt inside p within = go (ltb p i) refl (eqb p i) refl (ltb p j) refl
  where
    there : p < length marks
    there = omega (arith, length-set marks i 1)

    go : (s : Bool) → ltb p i ≡ s → (t : Bool) → eqb p i ≡ t → (u : Bool) → ltb p j ≡ u
        → get_or (set marks i 1) p 0 ≡ cond (ltb p j) (cond (in_number xs p) 0 1) 0
    go s a true b u c =
        let same : p ≡ i = eqb-true p i b in
        rw (same, lt-ltb i j lt, out) (get_or-set_same marks i 1 0 (omega (arith, there)))
    go true a false b u c =
        let less : p < i = ltb-true p i a in
        let other : p ≢ i = eqb-false p i b in
        get_or-set_other marks i p 1 0 other ∙ m p there ∙ rw (a, lt-ltb p j (omega arith)) refl
    go false a false b true c =
        let other : p ≢ i = eqb-false p i b in
        let ge : i ≤ p = ltb-false p i a in
        let less : p < j = ltb-true p j c in
        get_or-set_other marks i p 1 0 other ∙ m p there ∙ rw (a, c, inside p (omega arith) less) refl
    go false a false b false c =
        let other : p ≢ i = eqb-false p i b in
        get_or-set_other marks i p 1 0 other ∙ m p there ∙ rw (a, c) refl
