-- The rows out of a vertex, given another source one by one from the last to the first, and their list handed over.
use Prim.Native.Nat.{ℕ, zero, suc, ◌+◌, ◌-◌, ◌*◌, ◌≤◌, ◌<◌}
use mathlib.Core.Path.{◌≡◌, refl, sym, ◌∙◌, ap, subst}
use mathlib.Core.Bool.{Bool, true, false, cond}
use mathlib.Core.Logic.{◌⊎◌, inl, inr, ⊎_elim}
use mathlib.Core.List.{List}
use native.Mathlib.Omega.{arith}
use lib.ListN.{length, get_or, set, length-set}
use lib.Seq.{get_or-set_same, get_or-set_other, set_comm}
use lib.Dec.{eqb}
use borrow.Author.Tests.{eq-eqb, ne_eqb}
use Rattle.graph.specs.Tables.{usable_limit, edge_words, source_word, target_word, source, target, set_edge_word}
use Rattle.graph.specs.Paths.{leads_out_of}
use Rattle.graph.specs.Commands.{moved_row, moved}
use Rattle.graph.proofs.TestLaws.{true-false, equal?}
use Rattle.graph.proofs.TableLaws.{length_moved, moved_out, moved-target}
use Rattle.index.specs.Layout.{row_limit, nowhere, last_in_base, before_in_base, last_out_base, before_out_base, last_out, before_out}
use Rattle.graph.specs.Internal.Search.{last_with}
use Rattle.index.specs.Layout.{Indexed, SameRows}
use Rattle.index.proofs.KeptLaws.{moved-source}
use Rattle.index.proofs.LinkLaws.{last_alike, last_same, last_skip, last_nowhere}
use Rattle.index.proofs.OutLaws.{Skips, OutOf, out_here, out_next, skip_first, next_is, out_at}

module _ (t t' : ℕ) where
  -- the source of a later row may be written first
  moved_row_ahead :
      (e : List ℕ) (i a n : ℕ) → n < i → moved_row t t' (set_edge_word e i source_word a) n ≡ set_edge_word (moved_row t t' e n) i source_word a
  unfolding moved_row
  moved_row_ahead e i a n lt =
      ap (λ (k : ℕ). cond (eqb k t) (set_edge_word (set_edge_word e i source_word a) n source_word t') (set_edge_word e i source_word a))
      (get_or-set_other e (edge_words * i + source_word) (edge_words * n + source_word) a 0 (omega arith))
      ∙ go (eqb (source e n) t)
    where
      go :
          (b : Bool)
          → cond b (set_edge_word (set_edge_word e i source_word a) n source_word t') (set_edge_word e i source_word a)
          ≡ set_edge_word (cond b (set_edge_word e n source_word t') e) i source_word a
      go true = set_comm e (edge_words * i + source_word) (edge_words * n + source_word) a t' (omega arith)
      go false = refl

  moved_ahead : (e : List ℕ) (i a n : ℕ) → n ≤ i → moved t t' (set_edge_word e i source_word a) n ≡ set_edge_word (moved t t' e n) i source_word a
  unfolding moved
  moved_ahead e i a zero le = refl
  moved_ahead e i a (suc n) le =
      ap (λ (l : List ℕ). moved_row t t' l n) (moved_ahead e i a n (omega arith)) ∙ moved_row_ahead (moved t t' e n) i a n (omega arith)

  -- row n is as it was while those before it are moved
  moved_later : (e : List ℕ) (n : ℕ) → source (moved t t' e n) n ≡ source e n
  moved_later e n = moved_out t t' e n (edge_words * n + source_word) (λ q. let r = q.2 in omega arith)

  moved_none : (e : List ℕ) → moved t t' e 0 ≡ e
  unfolding moved
  moved_none e = refl

  moved_here : (e : List ℕ) (n : ℕ) → source e n ≡ t → moved t t' e (suc n) ≡ moved t t' (set_edge_word e n source_word t') n
  unfolding moved moved_row
  moved_here e n q = rw (eq-eqb (source (moved t t' e n) n) t (moved_later e n ∙ q)) (sym (moved_ahead e n t' n (omega arith)))

  moved_skips : (e : List ℕ) → Skips e t (λ k. moved t t' e k)
  unfolding moved moved_row
  moved_skips e n ne = rw (ne_eqb (source (moved t t' e n) n) t (λ q. ne (sym (moved_later e n) ∙ q))) refl

  -- of the first n rows of x those out of t, but for the ones before `left`, were moved in y
  pub record Moving (x : List ℕ) (n : ℕ) (y : List ℕ) (left : ℕ) : Type 0 where
    pub rest : moved t t' x n ≡ moved t t' y left
    pub same : (j : ℕ) → (j < edge_words * left) ⊎ (last_in_base ≤ j) → get_or y j 0 ≡ get_or x j 0
    pub long : length y ≡ length x

  pub moving_first : (x : List ℕ) (n : ℕ) → Indexed x n → t < usable_limit → Moving x n x (last_out x t)
  moving_first x n h lt = record { rest = skip_first x n t (λ k. moved t t' x k) h lt (moved_skips x); same = λ j q. refl; long = refl }

  module _
      (x : List ℕ) (n : ℕ) (y : List ℕ) (left : ℕ) (h : Indexed x n) (lt : t < usable_limit) (at : OutOf x n t left) (more : left ≡ 0 → ⊥)
      (m : Moving x n y left)
    where
      abbrev next : List ℕ
      next = set_edge_word y (left - 1) source_word t'

      next_same : (j : ℕ) → (j < edge_words * (left - 1)) ⊎ (last_in_base ≤ j) → get_or next j 0 ≡ get_or x j 0
      next_same j q =
          let few : n ≤ row_limit = h.few in
          let inside : left ≤ n = at.within in
          get_or-set_other y (edge_words * (left - 1) + source_word) j t' 0 (λ r. ⊎_elim (λ l. omega arith) (λ l. omega arith) q)
          ∙ m.same j (⊎_elim (λ l. inl (omega arith)) inr q)

      -- the row before is read where it stood
      link_same : before_out next (left - 1) ≡ before_out x (left - 1)
      link_same = next_same (before_out_base + (left - 1)) (inr (omega arith))

      last_next : last_with source_word next t (left - 1) ≡ before_out x (left - 1)
      last_next =
          last_same source_word x next t (left - 1) (λ i l. next_same (edge_words * i + source_word) (inl (omega arith)))
          ∙ sym (next_is x n t left at more h lt)

      next_rest : moved t t' x n ≡ moved t t' next (before_out x (left - 1))
      next_rest =
          let one : left ≡ suc (left - 1) = omega arith in
          let out : source y (left - 1) ≡ t = m.same (edge_words * (left - 1) + source_word) (inl (omega arith)) ∙ (out_here x n t left at more).1 in
          m.rest
          ∙ ap (moved t t' y) one
          ∙ moved_here y (left - 1) out
          ∙ last_skip source_word next t (λ k. moved t t' next k) (moved_skips next) (left - 1)
          ∙ ap (moved t t' next) last_next

      -- one row more is moved
      pub moving_next :
          OutOf x n t (before_out next (left - 1)) × (before_out next (left - 1) < left) × Moving x n next (before_out next (left - 1))
      moving_next =
          let (out, falls) = out_next x n t left at more h lt in
          subst (λ (k : ℕ). OutOf x n t k × (k < left) × Moving x n next k) (sym link_same) (
            out,
            falls,
            record {
              rest = next_rest;
              same = λ j q. next_same j (⊎_elim (λ l. inl (omega arith)) inr q);
              long = length-set y (edge_words * (left - 1) + source_word) t' ∙ m.long;
            },
          )

  moving_end : (x : List ℕ) (n : ℕ) (y : List ℕ) (left : ℕ) → left ≡ 0 → Moving x n y left → y ≡ moved t t' x n
  moving_end x n y left q m = sym (m.rest ∙ ap (moved t t' y) q ∙ moved_none y)

  -- THE LIST HANDED OVER: t' has the last row out that t had, and t has none
  abbrev hand_over : List ℕ → List ℕ → List ℕ
  hand_over x y = set (set y (last_out_base + t') (last_out x t)) (last_out_base + t) 0

  abbrev handed : List ℕ → ℕ → List ℕ
  handed x n = hand_over x (moved t t' x n)

  module _
      (x : List ℕ) (n : ℕ) (h : Indexed x n) (lt : t < usable_limit) (le : t' ≤ nowhere) (ne : t ≡ t' → ⊥)
      (free : t' < usable_limit → leads_out_of x n t' ≡ false)
    where
      long_handed : length (handed x n) ≡ length x
      long_handed = simp length-set (length_moved t t' x n)

      -- nothing but the last rows out, and the sources
      handed_moved : (j : ℕ) → (j < last_out_base) ⊎ (before_out_base ≤ j) → get_or (handed x n) j 0 ≡ get_or (moved t t' x n) j 0
      handed_moved j q =
          get_or-set_other (set (moved t t' x n) (last_out_base + t') (last_out x t)) (last_out_base + t) j 0 0
          (λ r. ⊎_elim (λ l. omega arith) (λ l. omega arith) q)
          ∙ get_or-set_other (moved t t' x n) (last_out_base + t') j (last_out x t) 0 (λ r. ⊎_elim (λ l. omega arith) (λ l. omega arith) q)

      handed_same_rows : SameRows n (handed x n) (moved t t' x n)
      handed_same_rows i l =
          let few : n ≤ row_limit = h.few in
          (handed_moved (edge_words * i + source_word) (inl (omega arith)), handed_moved (edge_words * i + target_word) (inl (omega arith)))

      moved_links : (j : ℕ) → last_in_base ≤ j → get_or (moved t t' x n) j 0 ≡ get_or x j 0
      moved_links j l = moved_out t t' x n j (λ q. let r = q.2 in let s = q.1 in let few : n ≤ row_limit = h.few in omega arith)

      handed_links : (j : ℕ) → last_in_base ≤ j → (j < last_out_base) ⊎ (before_out_base ≤ j) → get_or (handed x n) j 0 ≡ get_or x j 0
      handed_links j l q = handed_moved j q ∙ moved_links j l

      handed-target : (i : ℕ) → i < n → target (handed x n) i ≡ target x i
      handed-target i l = (handed_same_rows i l).1 ∙ moved-target t t' x n i

      room : edge_words * n ≤ length x
      room = omega (arith, h.long, h.few)

      handed_from : (i : ℕ) → i < n → source x i ≡ t → source (handed x n) i ≡ t'
      handed_from i l q = (handed_same_rows i l).0 ∙ (rw (eq-eqb (source x i) t q) at (moved-source t t' x n room i l))

      handed_rest : (i : ℕ) → i < n → (source x i ≡ t → ⊥) → source (handed x n) i ≡ source x i
      handed_rest i l q = (handed_same_rows i l).0 ∙ (rw (ne_eqb (source x i) t q) at (moved-source t t' x n room i l))

      -- the last rows out
      last_of_from : last_out (handed x n) t ≡ 0
      last_of_from =
          get_or-set_same (set (moved t t' x n) (last_out_base + t') (last_out x t)) (last_out_base + t) 0 0
          (simp length-set (omega (arith, length_moved t t' x n, h.long)))

      last_of_to : last_out (handed x n) t' ≡ last_out x t
      last_of_to =
          get_or-set_other (set (moved t t' x n) (last_out_base + t') (last_out x t)) (last_out_base + t) (last_out_base + t') 0 0 (λ q. ne (omega arith))
          ∙ get_or-set_same (moved t t' x n) (last_out_base + t') (last_out x t) 0 (omega (arith, length_moved t t' x n, h.long))

      last_of_rest : (v : ℕ) → (v ≡ t → ⊥) → (v ≡ t' → ⊥) → last_out (handed x n) v ≡ last_out x v
      last_of_rest v p q =
          get_or-set_other (set (moved t t' x n) (last_out_base + t') (last_out x t)) (last_out_base + t) (last_out_base + v) 0 0 (λ r. p (omega arith))
          ∙ get_or-set_other (moved t t' x n) (last_out_base + t') (last_out_base + v) (last_out x t) 0 (λ r. q (omega arith))
          ∙ moved_links (last_out_base + v) (omega arith)

      -- t' had no row out
      none_of_to : t' < usable_limit → (i : ℕ) → i < n → source x i ≡ t' → ⊥
      none_of_to l i li q = true-false (out_at x n t' i li q) (free l)

      given : t' < usable_limit → (k : ℕ) → k ≤ n → last_with source_word x t k ≡ last_with source_word (handed x n) t' k
      given l k lk =
          last_alike source_word x (handed x n) t t' k
          (λ i li. (
            handed_from i (omega arith),
            λ q. ⊎_elim (λ p. p) (λ p. absurd (none_of_to l i (omega arith) (sym (handed_rest i (omega arith) p) ∙ q))) (equal? (source x i) t),
          ))

      kept_last : (v k : ℕ) → (v ≡ t → ⊥) → (v ≡ t' → ⊥) → k ≤ n → last_with source_word x v k ≡ last_with source_word (handed x n) v k
      kept_last v k p p' lk =
          last_alike source_word x (handed x n) v v k
          (λ i li. (
            λ q. handed_rest i (omega arith) (λ r. p (sym q ∙ r)) ∙ q,
            λ q.
                ⊎_elim
                (λ r. absurd (p' (sym q ∙ handed_from i (omega arith) r)))
                (λ r. sym (handed_rest i (omega arith) r) ∙ q)
                (equal? (source x i) t),
          ))

      gone : last_with source_word (handed x n) t n ≡ 0
      gone =
          last_nowhere source_word (handed x n) t n
          (λ i l q. ⊎_elim (λ p. ne (sym q ∙ handed_from i l p)) (λ p. p (sym (handed_rest i l p) ∙ q)) (equal? (source x i) t))

      handed_outs : (v : ℕ) → v < usable_limit → last_out (handed x n) v ≡ last_with source_word (handed x n) v n
      handed_outs v lv =
          ⊎_elim
          (λ q. subst (λ (k : ℕ). last_out (handed x n) k ≡ last_with source_word (handed x n) k n) (sym q) (last_of_from ∙ sym gone))
          (λ p.
          ⊎_elim
          (λ q.
          subst (λ (k : ℕ). last_out (handed x n) k ≡ last_with source_word (handed x n) k n) (sym q)
          (last_of_to ∙ h.outs t lt ∙ given (omega arith) n (omega arith)))
          (λ q. last_of_rest v p q ∙ h.outs v lv ∙ kept_last v n p q (omega arith))
          (equal? v t'))
          (equal? v t)

      handed_out_links :
          (i : ℕ) → i < n → source (handed x n) i < usable_limit
          → before_out (handed x n) i ≡ last_with source_word (handed x n) (source (handed x n) i) i
      handed_out_links i l usable =
          ⊎_elim
          (λ q.
          let to : source (handed x n) i ≡ t' = handed_from i l q in
          handed_links (before_out_base + i) (omega arith) (inr (omega arith))
          ∙ h.out_links i l (omega arith)
          ∙ ap (λ (k : ℕ). last_with source_word x k i) q
          ∙ given (omega arith) i (omega arith)
          ∙ ap (λ (k : ℕ). last_with source_word (handed x n) k i) (sym to))
          (λ p.
          let as_was : source (handed x n) i ≡ source x i = handed_rest i l p in
          handed_links (before_out_base + i) (omega arith) (inr (omega arith))
          ∙ h.out_links i l (omega arith)
          ∙ kept_last (source x i) i p (λ q. none_of_to (omega arith) i l q) (omega arith)
          ∙ ap (λ (k : ℕ). last_with source_word (handed x n) k i) (sym as_was))
          (equal? (source x i) t)

      handed_last_in : (v k : ℕ) → k ≤ n → last_with target_word (handed x n) v k ≡ last_with target_word x v k
      handed_last_in v k lk = last_same target_word x (handed x n) v k (λ i l. handed-target i (omega arith))

      handed_indexed : Indexed (handed x n) n
      handed_indexed =
          let few : n ≤ row_limit = h.few in
          record {
            long = long_handed ∙ h.long;
            few = few;
            sources =
                λ i l. ⊎_elim (λ q. omega (arith, handed_from i l q)) (λ q. omega (arith, handed_rest i l q, h.sources i l)) (equal? (source x i) t);
            targets = λ i l. omega (arith, handed-target i l, h.targets i l);
            ins = λ v lv. handed_links (last_in_base + v) (omega arith) (inl (omega arith)) ∙ h.ins v lv ∙ sym (handed_last_in v n (omega arith));
            outs = handed_outs;
            in_links =
                λ i l.
                handed_links (before_in_base + i) (omega arith) (inl (omega arith))
                ∙ h.in_links i l
                ∙ sym (handed_last_in (target x i) i (omega arith))
                ∙ ap (λ (v : ℕ). last_with target_word (handed x n) v i) (sym (handed-target i l));
            out_links = handed_out_links;
          }

      -- of the rows that were moved one by one, too
      pub handed_over : (y : List ℕ) (left : ℕ) → left ≡ 0 → Moving x n y left → Indexed (hand_over x y) n × SameRows n (hand_over x y) (moved t t' x n)
      handed_over y left q m =
          subst (λ (l : List ℕ). Indexed (hand_over x l) n × SameRows n (hand_over x l) (moved t t' x n)) (sym (moving_end x n y left q m))
          (handed_indexed, handed_same_rows)
