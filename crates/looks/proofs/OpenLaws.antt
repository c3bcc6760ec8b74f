-- The open vertices, which may step, as far as their own rows tell, and are neither busy nor shut; and who is shut besides.
--
--     free_as_marked, open_as_told         one that may step is free as its mark says, and open as the table of the shut says
--     NoneOpen, one_more, nearer           none is open from a number on, below another
--     shut_here, shut_other, open_before   one more is shut
--     none_shut                            nobody is shut
--     shuts_same, shuts_one, shuts_both    whom a look shuts: nobody, one that cannot step, or those of two looks
--     still_open                           who is open behind a look was so before
--     Seeking, seeking_begins, seeking_on  looking for one that can step, one open vertex after the other
use Prim.Native.Nat.{ℕ, ◌+◌, ◌-◌, ◌<◌, ◌≤◌}
use mathlib.Core.Path.{◌≡◌, refl, sym, ◌∙◌, ap, subst}
use mathlib.Core.Bool.{Bool, true, false, not}
use mathlib.Core.Logic.{inl, inr, ⊎_elim}
use mathlib.Core.List.{List}
use native.Mathlib.Numerals.{add-one}
use native.Mathlib.Omega.{arith}
use lib.Dec.{eqb, ltb}
use lib.ListN.{length, get_or, set, replicate, length-set, length-replicate, get_or-replicate, get_or-eq_default}
use lib.Seq.{get_or-set_same, get_or-set_other}
use borrow.Author.Tests.{ltb-true, ltb-false}
use Rattle.graph.proofs.TestLaws.{true-false, decide, equal?, not_so, below_suc, both_true, both_left, both_right, both-false_right}
use Rattle.graph.proofs.LowestLaws.{order?}
use Rattle.index.specs.declared.Course.{Course}
use Rattle.index.specs.Underway.{may_step}
use Rattle.program.specs.declared.Edition.{Edition}
use Rattle.machine.specs.Dispatching.{is_busy}
use Rattle.engine.proofs.DueLaws.{both_skip}
use Rattle.looks.specs.Looking.{is_free, is_open, FirstOpen, CannotOn, Shuts}

-- WHO IS OPEN
not-not : (b : Bool) → b ≡ not (not b)
not-not true = refl
not-not false = refl

-- one that may step is free as its mark says
pub free_as_marked : (v marks : List ℕ) (u : ℕ) {b : Bool} → may_step v u ≡ true → b ≡ eqb (get_or marks u 0) 0 → b ≡ is_free v marks u
free_as_marked v marks u may h = h ∙ (not-not (eqb (get_or marks u 0) 0) ∙ both_skip (not (is_busy marks u)) may)

-- a free one is open as the table of the shut says
pub open_as_told : (v marks shut : List ℕ) (u : ℕ) {b : Bool} → is_free v marks u ≡ true → b ≡ eqb (get_or shut u 0) 0 → b ≡ is_open v marks shut u
open_as_told v marks shut u free h = h ∙ (not-not (eqb (get_or shut u 0) 0) ∙ both_skip (not (is_busy shut u)) free)

-- an open one may step
pub open_may : (v marks shut : List ℕ) (u : ℕ) → is_open v marks shut u ≡ true → may_step v u ≡ true
open_may v marks shut u stands_open = both_left _ _ (both_left _ _ stands_open)

-- none is open from a number on, below another
abbrev pub NoneOpen : List ℕ → List ℕ → List ℕ → ℕ → ℕ → Type 0
NoneOpen v marks shut from n = (u : ℕ) → from ≤ u → u < n → is_open v marks shut u ≡ false

pub one_more :
    (v marks shut : List ℕ) (from n : ℕ) → NoneOpen v marks shut from n → is_open v marks shut n ≡ false → NoneOpen v marks shut from (n + 1)
one_more v marks shut from n h q =
    rw (add-one n)
    (λ u le lt. ⊎_elim (λ e. subst (λ (x : ℕ). is_open v marks shut x ≡ false) (sym e) q) (λ l. h u le l) (below_suc lt))

-- the first open vertex behind u is nearer to the end
pub nearer :
    (v marks shut : List ℕ) (made u from r : ℕ) → u < made → u < from → FirstOpen v marks shut made from r → made - r < made - u
nearer v marks shut made u from r lt behind first =
    let within : r ≤ made = first.0 in
    ⊎_elim (λ (l : r < made). let ahead : from ≤ r = (first.1 l).0 in omega arith)
    (⊎_elim (λ (e : r ≡ made). omega arith) (λ (g : made < r). omega arith))
    (order? r made)

-- WHO IS SHUT
-- one more is
pub shut_here : (shut : List ℕ) (u : ℕ) → u < length shut → is_busy (set shut u 1) u ≡ true
shut_here shut u lt = ap (λ (n : ℕ). not (eqb n 0)) (get_or-set_same shut u 1 0 lt)

pub shut_other : (shut : List ℕ) (u t : ℕ) → (t ≡ u → ⊥) → is_busy (set shut u 1) t ≡ is_busy shut t
shut_other shut u t ne = ap (λ (n : ℕ). not (eqb n 0)) (get_or-set_other shut u t 1 0 ne)

-- nobody is
pub none_shut : (n u : ℕ) → is_busy (replicate n 0) u ≡ false
none_shut n u = ap (λ (k : ℕ). not (eqb k 0)) blank
  where
    blank : ◌≡◌ {A = ℕ} (get_or (replicate n 0) u 0) 0
    blank =
        ⊎_elim (λ p. get_or-replicate n u 0 0 (ltb-true u n p))
        (λ p. get_or-eq_default (replicate n 0) 0 (omega (arith, length-replicate {A = ℕ} n 0, ltb-false u n p)))
        (decide (ltb u n))

-- WHOM A LOOK SHUTS
module _ (ed : Edition) (bytes v x : List ℕ) (k : Course) (limit : ℕ) where
  -- nobody besides
  pub shuts_same : (shut : List ℕ) → Shuts ed bytes v x k limit shut shut
  shuts_same shut = record { long = refl; still = λ u h. h; besides = λ u h. inl h }

  -- one that cannot step
  pub shuts_one : (shut : List ℕ) (t : ℕ) → t < length shut → CannotOn ed bytes v x k limit t → Shuts ed bytes v x k limit shut (set shut t 1)
  shuts_one shut t lt cannot =
      record {
        long = length-set shut t 1;
        still =
            λ u h.
            ⊎_elim (λ (same : u ≡ t). subst (λ (y : ℕ). is_busy (set shut t 1) y ≡ true) (sym same) (shut_here shut t lt))
            (λ ne. shut_other shut t u ne ∙ h)
            (equal? u t);
        besides =
            λ u h.
            ⊎_elim (λ (same : u ≡ t). inr (subst (λ (y : ℕ). CannotOn ed bytes v x k limit y) (sym same) cannot))
            (λ ne. inl (sym (shut_other shut t u ne) ∙ h))
            (equal? u t);
      }

  -- those of two looks
  pub shuts_both :
      {shut shut₁ shut₂ : List ℕ} → Shuts ed bytes v x k limit shut shut₁ → Shuts ed bytes v x k limit shut₁ shut₂
      → Shuts ed bytes v x k limit shut shut₂
  shuts_both p q =
      record {
        long = q.long ∙ p.long;
        still = λ u h. q.still u (p.still u h);
        besides = λ u h. ⊎_elim (λ h₁. p.besides u h₁) (λ cannot. inr cannot) (q.besides u h);
      }

  -- who is open behind it was so before
  pub still_open :
      (marks : List ℕ) {shut shut' : List ℕ} → Shuts ed bytes v x k limit shut shut' → (u : ℕ) → is_open v marks shut' u ≡ true
      → is_open v marks shut u ≡ true
  still_open marks {shut} {shut'} shuts u stands_open =
      both_true (both_left _ _ stands_open)
      (ap not (not_so (is_busy shut u) (λ h. true-false (both_right (is_free v marks u) _ stands_open) (ap not (shuts.still u h)))))

-- LOOKING FOR ONE THAT CAN STEP
-- Who was shut on the way cannot step, and none from `from` on is open below the vertex at hand; that one is open.
pub record Seeking (ed : Edition) (bytes v x marks : List ℕ) (k : Course) (limit made from : ℕ) (shut₀ shut : List ℕ) (u : ℕ) : Type 0 where
  pub shuts : Shuts ed bytes v x k limit shut₀ shut
  pub first : FirstOpen v marks shut made from u

module _ (ed : Edition) (bytes v x marks : List ℕ) (k : Course) (limit made from : ℕ) (shut₀ : List ℕ) where
  -- it begins at the first open one
  pub seeking_begins : (u : ℕ) → FirstOpen v marks shut₀ made from u → Seeking ed bytes v x marks k limit made from shut₀ shut₀ u
  seeking_begins u first = record { shuts = shuts_same ed bytes v x k limit shut₀; first = first }

  -- one that cannot step is shut, and it goes on at the next open one
  pub seeking_on :
      (shut : List ℕ) (u r : ℕ) → Seeking ed bytes v x marks k limit made from shut₀ shut u → u < made → u < length shut
      → CannotOn ed bytes v x k limit u → FirstOpen v marks (set shut u 1) made (u + 1) r
      → Seeking ed bytes v x marks k limit made from shut₀ (set shut u 1) r
  seeking_on shut u r seeks lt short cannot next =
      record {
        shuts = shuts_both ed bytes v x k limit seeks.shuts one;
        first = (next.0, λ l. (omega (arith, (seeks.first.1 lt).0, (next.1 l).0), (next.1 l).1), none_before);
      }
    where
      one : Shuts ed bytes v x k limit shut (set shut u 1)
      one = shuts_one ed bytes v x k limit shut u short cannot

      none_before : NoneOpen v marks (set shut u 1) from r
      none_before t le below =
          ⊎_elim (λ l. not_so _ (λ stands_open. true-false (still_open ed bytes v x k limit marks one t stands_open) (seeks.first.2 t le l)))
          (⊎_elim
          (λ (same : t ≡ u).
          both-false_right (is_free v marks t)
          (ap not (subst (λ (y : ℕ). is_busy (set shut u 1) y ≡ true) (sym same) (shut_here shut u short))))
          (λ (g : u < t). next.2 t (omega arith) below))
          (order? t u)
