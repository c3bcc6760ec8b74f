-- Numbers of edges: how many lead into a vertex after an update of the edge table, and what its in-count then is.
use Prim.Native.Nat.{ℕ, zero, suc, ◌+◌, ◌-◌, ◌*◌, ◌<◌, ◌≤◌}
use mathlib.Core.Path.{◌≡◌, refl, sym, ◌∙◌, ap}
use mathlib.Core.Logic.{⊎_elim}
use mathlib.Core.Bool.{Bool, true, false, cond}
use mathlib.Core.List.{List}
use native.Mathlib.Omega.{arith}
use native.Mathlib.Numerals.{add-one}
use lib.ListN.{length}
use lib.Dec.{eqb}
use borrow.Author.Tests.{eq-eqb, ne_eqb, lt-ltb}
use Rattle.graph.specs.Tests.{both, how_many}
use Rattle.graph.specs.Tables.{vertex_words, largest_word, target_word, edge_rows, in_count, source, target}
use Rattle.graph.specs.Paths.{edges_into}
use Rattle.graph.specs.Commands.{appended, moved, kept_rows, kept, without_edges_of, one_more, more_into, less_into, lowered}
use Rattle.graph.proofs.TestLaws.{equal?}
use Rattle.graph.proofs.TableLaws.{more_same, more_other, less_same, less_other, appended_other, appended-target, moved-target}
use Rattle.graph.proofs.TableLaws.{kept_rows_drop, kept_rows_keep, kept_front, kept_target, without_kept, lowered_drop, lowered_keep, length-lowered}

-- 1 where a test holds, else 0
abbrev pub one_if : Bool → ℕ
one_if b = cond b 1 0

one_if_few : (b : Bool) → one_if b ≤ 1
one_if_few true = omega arith
one_if_few false = omega arith

how_many_few : (p : ℕ → Bool) (n : ℕ) → how_many p n ≤ n
unfolding how_many
how_many_few p zero = omega arith
how_many_few p (suc n) = omega (arith, how_many_few p n, one_if_few (p n))

how_many_same : (p q : ℕ → Bool) (n : ℕ) → ((i : ℕ) → i < n → p i ≡ q i) → how_many p n ≡ how_many q n
unfolding how_many
how_many_same p q zero h = refl
how_many_same p q (suc n) h = rw (h n (omega arith), how_many_same p q n (λ i lt. h i (omega arith)))

-- THE EDGES INTO k
-- no more than there are rows
pub into_few : (e : List ℕ) (n k : ℕ) → edges_into e n k ≤ n
unfolding edges_into
into_few e n k = how_many_few _ n

pub into_none : (e : List ℕ) (k : ℕ) → edges_into e 0 k ≡ 0
unfolding edges_into how_many
into_none e k = refl

-- targets alone count
into_same : (e e' : List ℕ) (n k : ℕ) → ((i : ℕ) → i < n → target e' i ≡ target e i) → edges_into e' n k ≡ edges_into e n k
unfolding edges_into
into_same e e' n k h = how_many_same _ _ n (λ i lt. ap (λ (x : ℕ). eqb x k) (h i lt))

-- one more row
into_next :
    (e e' : List ℕ) (n k : ℕ) → ((i : ℕ) → i < n → target e' i ≡ target e i)
    → edges_into e' (suc n) k ≡ edges_into e n k + one_if (eqb (target e' n) k)
unfolding edges_into how_many
into_next e e' n k h = ap (λ (x : ℕ). x + one_if (eqb (target e' n) k)) (into_same e e' n k h)

-- newEdge
pub into_appended :
    (e : List ℕ) (n a b k : ℕ) → n < edge_rows e → edges_into (appended e n a b) (n + 1) k ≡ edges_into e n k + one_if (eqb b k)
into_appended e n a b k lt =
    ap (λ (m : ℕ). edges_into (appended e n a b) m k) (add-one n)
    ∙ into_next e (appended e n a b) n k (λ i. appended_other e n a b i target_word (omega arith))
    ∙ ap (λ (x : ℕ). edges_into e n k + one_if (eqb x k)) (appended-target e n a b lt)

-- transfer
pub into_moved : (t t' : ℕ) (e : List ℕ) (n k : ℕ) → edges_into (moved t t' e n) n k ≡ edges_into e n k
into_moved t t' e n k = into_same e (moved t t' e n) n k (λ i lt. moved-target t t' e n i)

-- stop: so many of the first n rows are dropped, out of t and into k
abbrev pub dropped_into : ℕ → List ℕ → ℕ → ℕ → ℕ
dropped_into t e n k = how_many (λ i. both (eqb (source e i) t) (eqb (target e i) k)) n

dropped_takes : (t : ℕ) (e : List ℕ) (n k : ℕ) → source e n ≡ t → dropped_into t e (suc n) k ≡ dropped_into t e n k + one_if (eqb (target e n) k)
unfolding how_many both
dropped_takes t e n k q = rw (eq-eqb (source e n) t q)

dropped_skips : (t : ℕ) (e : List ℕ) (n k : ℕ) → (source e n ≡ t → ⊥) → dropped_into t e (suc n) k ≡ dropped_into t e n k
unfolding how_many both
dropped_skips t e n k ne = rw (ne_eqb (source e n) t ne) (omega arith)

-- a row is kept or dropped
into_kept : (t : ℕ) (e : List ℕ) (n k : ℕ) → edges_into (kept t e n) (kept_rows t e n) k + dropped_into t e n k ≡ edges_into e n k
into_kept t e zero k = unfold edges_into kept_rows how_many in refl
into_kept t e (suc n) k =
    let before = into_kept t e n k in
    let now = into_next e e n k (λ i lt. refl) in
    let front : (i : ℕ) → i < kept_rows t e n → target (kept t e (suc n)) i ≡ target (kept t e n) i = λ i. kept_front t e n i target_word (omega arith) in
    ⊎_elim
    (λ q.
    rw (kept_rows_drop t e n q, into_same (kept t e n) (kept t e (suc n)) (kept_rows t e n) k front)
    (omega (arith, before, now, dropped_takes t e n k q)))
    (λ ne.
    rw (kept_rows_keep t e n ne, into_next (kept t e n) (kept t e (suc n)) (kept_rows t e n) k front, kept_target t e n ne)
    (omega (arith, before, now, dropped_skips t e n k ne)))
    (equal? (source e n) t)

pub into_without : (t : ℕ) (e : List ℕ) (n k : ℕ) → edges_into (without_edges_of t e n) (kept_rows t e n) k + dropped_into t e n k ≡ edges_into e n k
into_without t e n k =
    rw (into_same (kept t e n) (without_edges_of t e n) (kept_rows t e n) k (λ i. without_kept t e n i target_word (omega arith))) (into_kept t e n k)

-- THE IN-COUNT OF k, which has a row
module _ (t k : ℕ) where
  -- newEdge: one more, below the largest number
  pub count_more :
      (v : List ℕ) → vertex_words * k + vertex_words ≤ length v → in_count v k < largest_word → in_count (more_into v t) k ≡ in_count v k + one_if (eqb t k)
  unfolding one_more
  count_more v room few =
      ⊎_elim
      (λ q. rw (eq-eqb t k (sym q), ← q) (more_same v k room ∙ rw (lt-ltb (in_count v k) largest_word few) refl))
      (λ ne. rw (ne_eqb t k (λ q. ne (sym q))) (more_other v t k ne ∙ omega arith))
      (equal? k t)

  count_less : (v : List ℕ) → vertex_words * k + vertex_words ≤ length v → in_count (less_into v t) k ≡ in_count v k - one_if (eqb t k)
  count_less v room =
      ⊎_elim
      (λ q. rw (eq-eqb t k (sym q), ← q) (less_same v k room))
      (λ ne. rw (ne_eqb t k (λ q. ne (sym q))) (less_other v t k ne ∙ omega arith))
      (equal? k t)

-- stop: one less for each dropped row
pub count_lowered :
    (t : ℕ) (e v : List ℕ) (n k : ℕ) → vertex_words * k + vertex_words ≤ length v → in_count (lowered t e v n) k ≡ in_count v k - dropped_into t e n k
count_lowered t e v zero k room = unfold lowered how_many in omega arith
count_lowered t e v (suc n) k room =
    let before = count_lowered t e v n k room in
    ⊎_elim
    (λ q.
    rw (lowered_drop t e v n q, count_less (target e n) k (lowered t e v n) (rw length-lowered room), dropped_takes t e n k q)
    (omega (arith, before)))
    (λ ne. rw (lowered_keep t e v n ne, dropped_skips t e n k ne) before)
    (equal? (source e n) t)
