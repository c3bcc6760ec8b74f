-- What a search or a loop over the held edges finds or has done after each row: looked for an edge, moved sources, gathered the rows that a stop keeps, and
-- lowered the in-counts of the others' targets.
use Prim.Native.Nat.{ℕ, zero, suc, ◌+◌, ◌-◌, ◌*◌, ◌<◌, ◌≤◌}
use mathlib.Core.Path.{◌≡◌, refl, sym, ◌∙◌, ap, subst}
use mathlib.Core.Bool.{true, false}
use mathlib.Core.List.{List, [], ◌∷◌, ◌++◌, append_assoc}
use native.Mathlib.Numerals.{add-one}
use native.Mathlib.Omega.{arith}
use lib.ListN.{length, get_or, take, drop, set, replicate, length-set}
use lib.Seq.{take-suc-set, drop-set-lt, drop-drop, get_or-drop, set-get_or}
use borrow.Author.Tests.{eq-eqb, ne_eqb, eqb-false}
use Rattle.std.specs.Prelude.{Option, None, Some, MatchOption}
use Rattle.std.specs.List.{AllWithin, HoldsAt}
use Rattle.std.specs.Option.{unwrap_or}
use Rattle.graph.specs.Tests.{any}
use Rattle.graph.specs.Internal.FirstRows.{FirstRows}
use Rattle.graph.specs.Tables.{usable_limit, vertex_words, edge_words, source_word, target_word, source, target, set_edge_word, clear}
use Rattle.graph.specs.Paths.{holds, leads_out_of}
use Rattle.graph.specs.Commands.{moved_row, moved, kept, kept_rows, without_edges_of, less_into, lowered}
use Rattle.graph.specs.Internal.Gather.{FirstOutOf, Gathered, TargetsFit}
use Rattle.graph.proofs.TableLaws.{kept_rows_drop, kept_rows_keep, kept_rows_le, kept_drop, kept_keep, lowered_drop, lowered_keep}
use Rattle.graph.proofs.ClearLaws.{clear_is}
use Rattle.graph.proofs.TestLaws.{any_none, any_empty, any_more, any_at, at_end, both_true, both-false_left, both-false_right}
use Rattle.graph.proofs.TestLaws.{either-false_left, either-false_right}

-- among no rows there is none; a row with another source or target is not it; and it is found where it stands
pub held_none : (e : List ℕ) (a b : ℕ) → holds e 0 a b ≡ false
unfolding holds
held_none e a b = any_empty _

pub held_other_source : (e : List ℕ) (i a b : ℕ) → holds e i a b ≡ false → (source e i ≡ a → ⊥) → holds e (i + 1) a b ≡ false
unfolding holds
held_other_source e i a b h p = any_more _ i h (both-false_left _ (ne_eqb (source e i) a p))

pub held_other_target : (e : List ℕ) (i a b : ℕ) → holds e i a b ≡ false → (target e i ≡ b → ⊥) → holds e (i + 1) a b ≡ false
unfolding holds
held_other_target e i a b h p = any_more _ i h (both-false_right _ (ne_eqb (target e i) b p))

pub held_found : (e : List ℕ) (n i a b : ℕ) → i < n → source e i ≡ a → target e i ≡ b → true ≡ holds e n a b
unfolding holds
held_found e n i a b lt p q = sym (any_at _ n i lt (both_true (eq-eqb (source e i) a p) (eq-eqb (target e i) b q)))

pub out_none : (e : List ℕ) (t : ℕ) → leads_out_of e 0 t ≡ false
unfolding leads_out_of
out_none e t = any_empty _

-- the first edge out of t, found among the rows
pub first_of_rows :
    (t : ℕ) (e : List ℕ) (n : ℕ) (rows : List (List ℕ)) → FirstRows edge_words e n rows → (o : Option ℕ) {r : ℕ}
    → MatchOption o (AllWithin (λ (row : List ℕ). get_or row 0 0 ≡ t → ⊥) rows 0 (length rows))
    (λ (i : ℕ). (i < length rows) × HoldsAt (λ (row : List ℕ). get_or row 0 0 ≡ t) rows i
    × AllWithin (λ (row : List ℕ). get_or row 0 0 ≡ t → ⊥) rows 0 i)
    → r ≡ unwrap_or o n → FirstOutOf t e n r
unfolding leads_out_of
first_of_rows t e n rows are None h p =
    rw p
    (record {
      within = omega arith;
      none_before =
          any_none _ n (λ i lt. ne_eqb (source e i) t (λ q. h i [] (omega arith) (omega (arith, are.count)) (are.word i 0 lt (omega arith) ∙ q)));
      there = λ lt. absurd (omega arith);
    })
first_of_rows t e n rows are (Some k) h p =
    let below : k < n = omega (arith, are.count, h.0) in
    rw p
    (record {
      within = omega arith;
      none_before =
          any_none _ k
          (λ i lt. ne_eqb (source e i) t (λ q. h.2 i [] (omega arith) lt (are.word i 0 (omega arith) (omega arith) ∙ q)));
      there = λ lt. sym (are.word k 0 below (omega arith)) ∙ h.1 [];
    })

-- moving sources
pub moved_none : (t t' : ℕ) (e : List ℕ) → e ≡ moved t t' e 0
unfolding moved
moved_none t t' e = refl

pub moved_skips : (t t' : ℕ) (e : List ℕ) {l : List ℕ} (i : ℕ) → l ≡ moved t t' e i → (source l i ≡ t → ⊥) → l ≡ moved t t' e (i + 1)
unfolding moved moved_row
moved_skips t t' e {l} i h p = rw (add-one, ← h) (rw (ne_eqb (source l i) t p) refl)

pub moved_sets : (t t' : ℕ) (e : List ℕ) {l : List ℕ} (i : ℕ) → l ≡ moved t t' e i → source l i ≡ t → set_edge_word l i source_word t' ≡ moved t t' e (i + 1)
unfolding moved moved_row
moved_sets t t' e {l} i h p = rw (add-one, ← h) (rw (eq-eqb (source l i) t p) refl)

pub moved_all : (t t' : ℕ) (e : List ℕ) {l : List ℕ} (n i : ℕ) → i ≤ n → n ≤ i → l ≡ moved t t' e i → l ≡ moved t t' e n
moved_all t t' e {l} n i p q h = at_end (λ k. l ≡ moved t t' e k) p q h

-- gathering
gathered_none : (t : ℕ) (e : List ℕ) → (0 ≡ kept_rows t e 0) × Gathered t e e 0
unfolding kept_rows kept
gathered_none t e = (refl, record { front = refl; rest = refl; same_length = refl; within = omega arith })

-- row i is read where it stood at entry
row_kept : (t : ℕ) (e : List ℕ) {e' : List ℕ} (i w : ℕ) → Gathered t e e' i → get_or e' (edge_words * i + w) 0 ≡ get_or e (edge_words * i + w) 0
row_kept t e {e'} i w h =
    sym (get_or-drop (edge_words * i) e' w 0) ∙ ap (λ (l : List ℕ). get_or l w 0) h.rest ∙ get_or-drop (edge_words * i) e w 0

rest_more : (t : ℕ) (e : List ℕ) {e' : List ℕ} (i : ℕ) → Gathered t e e' i → drop (edge_words * (i + 1)) e' ≡ drop (edge_words * (i + 1)) e
rest_more t e {e'} i h =
    let split : edge_words * (i + 1) ≡ edge_words * i + edge_words = omega arith in
    rw split (sym (drop-drop edge_words (edge_words * i) e') ∙ ap (drop edge_words) h.rest ∙ drop-drop edge_words (edge_words * i) e)

-- row i put behind the first k
abbrev put : List ℕ → ℕ → ℕ → List ℕ
put l k i = set (set l (edge_words * k + source_word) (source l i)) (edge_words * k + target_word) (target l i)

put-length : (l : List ℕ) (k i : ℕ) → length (put l k i) ≡ length l
put-length l k i =
    length-set (set l (edge_words * k + source_word) (source l i)) (edge_words * k + target_word) (target l i)
    ∙ length-set l (edge_words * k + source_word) (source l i)

put_rest : (l : List ℕ) (k i : ℕ) → k ≤ i → drop (edge_words * (i + 1)) (put l k i) ≡ drop (edge_words * (i + 1)) l
put_rest l k i h =
    drop-set-lt (edge_words * (i + 1)) (set l (edge_words * k + source_word) (source l i)) (edge_words * k + target_word) (target l i) (omega arith)
    ∙ drop-set-lt (edge_words * (i + 1)) l (edge_words * k + source_word) (source l i) (omega arith)

-- where it stood
put_same : (l : List ℕ) (i : ℕ) → put l i i ≡ l
put_same l i =
    ap (λ (x : List ℕ). set x (edge_words * i + target_word) (target l i)) (set-get_or l (edge_words * i + source_word) 0)
    ∙ set-get_or l (edge_words * i + target_word) 0

put_more :
    (l : List ℕ) (k i : ℕ) → edge_words * k + edge_words ≤ length l
    → take (edge_words * (k + 1)) (put l k i) ≡ take (edge_words * k) l ++ (source l i ∷ target l i ∷ [])
put_more l k i h =
    let n : edge_words * (k + 1) ≡ suc (edge_words * k + target_word) = omega arith in
    let m : edge_words * k + target_word ≡ suc (edge_words * k + source_word) = omega arith in
    let z : edge_words * k + source_word ≡ edge_words * k = omega arith in
    ap (λ (x : ℕ). take x (put l k i)) n
    ∙ take-suc-set (set l (edge_words * k + source_word) (source l i)) (edge_words * k + target_word) (target l i) (rw length-set (omega arith))
    ∙ ap (λ (x : ℕ). take x (set l (edge_words * k + source_word) (source l i)) ++ (target l i ∷ [])) m
    ∙ ap (λ (x : List ℕ). x ++ (target l i ∷ [])) (take-suc-set l (edge_words * k + source_word) (source l i) (omega arith))
    ∙ append_assoc (take (edge_words * k + source_word) l) (source l i ∷ []) (target l i ∷ [])
    ∙ ap (λ (x : ℕ). take x l ++ (source l i ∷ target l i ∷ [])) z

pub gathered_drops :
    (t : ℕ) (e : List ℕ) {e' : List ℕ} {k : ℕ} (i : ℕ) → k ≡ kept_rows t e i → Gathered t e e' i → source e' i ≡ t
    → (k ≡ kept_rows t e (i + 1)) × Gathered t e e' (i + 1)
gathered_drops t e {e'} i r h p =
    let q : source e i ≡ t = sym (row_kept t e i source_word h) ∙ p in
    let n : kept_rows t e (i + 1) ≡ kept_rows t e i = ap (kept_rows t e) (add-one i) ∙ kept_rows_drop t e i q in (
      r ∙ sym n,
      record {
        front = ap (λ (x : ℕ). take (edge_words * x) e') n ∙ h.front ∙ sym (ap (kept t e) (add-one i) ∙ kept_drop t e i q);
        rest = rest_more t e i h;
        same_length = h.same_length;
        within = rw n (omega (arith, h.within));
      },
    )

pub gathered_keeps :
    (t : ℕ) (e : List ℕ) {e' : List ℕ} {k : ℕ} (i : ℕ) → k ≡ kept_rows t e i → Gathered t e e' i → edge_words * i + edge_words ≤ length e'
    → (source e' i ≡ t → ⊥)
    → (k + 1 ≡ kept_rows t e (i + 1)) × Gathered t e (put e' k i) (i + 1)
gathered_keeps t e {e'} {k} i r h room p =
    let q : source e i ≡ t → ⊥ = λ eq. p (row_kept t e i source_word h ∙ eq) in
    let n : kept_rows t e (i + 1) ≡ kept_rows t e i + 1 = ap (kept_rows t e) (add-one i) ∙ kept_rows_keep t e i q ∙ sym (add-one (kept_rows t e i)) in
    let m : kept_rows t e (i + 1) ≡ k + 1 = n ∙ ap (λ (x : ℕ). x + 1) (sym r) in
    let w : k ≤ i = subst (λ (x : ℕ). x ≤ i) (sym r) h.within in (
      sym m,
      record {
        front =
            ap (λ (x : ℕ). take (edge_words * x) (put e' k i)) m
            ∙ put_more e' k i (omega arith)
            ∙ ap (λ (x : ℕ). take (edge_words * x) e' ++ (source e' i ∷ target e' i ∷ [])) r
            ∙ ap (λ (x : List ℕ). x ++ (source e' i ∷ target e' i ∷ [])) h.front
            ∙ ap (λ (x : ℕ). kept t e i ++ (x ∷ target e' i ∷ [])) (row_kept t e i source_word h)
            ∙ ap (λ (x : ℕ). kept t e i ++ (source e i ∷ x ∷ [])) (row_kept t e i target_word h)
            ∙ sym (ap (kept t e) (add-one i) ∙ kept_keep t e i q);
        rest = put_rest e' k i w ∙ rest_more t e i h;
        same_length = put-length e' k i ∙ h.same_length;
        within = rw m (omega arith);
      },
    )

pub gathered_all :
    (t : ℕ) (e : List ℕ) {e' : List ℕ} {k : ℕ} (n i : ℕ) → i ≤ n → n ≤ i → (k ≡ kept_rows t e i) × Gathered t e e' i → (k ≡ kept_rows t e n) × Gathered t e e' n
gathered_all t e {e'} {k} n i p q h = at_end (λ j. (k ≡ kept_rows t e j) × Gathered t e e' j) p q h

-- lowering in-counts, while the rows are gathered
lowered_none : (t : ℕ) (e v : List ℕ) → v ≡ lowered t e v 0
unfolding lowered
lowered_none t e v = refl

pub lowered_skips :
    (t : ℕ) (e v : List ℕ) {e' v' : List ℕ} (i : ℕ) → v' ≡ lowered t e v i → Gathered t e e' i → (source e' i ≡ t → ⊥) → v' ≡ lowered t e v (i + 1)
lowered_skips t e v i h g p =
    h ∙ sym (ap (lowered t e v) (add-one i) ∙ lowered_keep t e v i (λ q. p (row_kept t e i source_word g ∙ q)))

pub lowered_less :
    (t : ℕ) (e v : List ℕ) {e' v' v'' : List ℕ} (i : ℕ) → v' ≡ lowered t e v i → Gathered t e e' i → source e' i ≡ t → v'' ≡ less_into v' (target e' i)
    → v'' ≡ lowered t e v (i + 1)
lowered_less t e v {e'} {v'} i h g p less =
    less
    ∙ ap (λ (l : List ℕ). less_into l (target e' i)) h
    ∙ ap (less_into (lowered t e v i)) (row_kept t e i target_word g)
    ∙ sym (ap (lowered t e v) (add-one i) ∙ lowered_drop t e v i (sym (row_kept t e i source_word g) ∙ p))

pub lowered_all : (t : ℕ) (e v : List ℕ) {v' : List ℕ} (n i : ℕ) → i ≤ n → n ≤ i → v' ≡ lowered t e v i → v' ≡ lowered t e v n
lowered_all t e v {v'} n i p q h = at_end (λ j. v' ≡ lowered t e v j) p q h

-- ahead of the first edge out of t every row stays where it is, and no in-count is lowered
pub gathered_ahead :
    (t : ℕ) (e v : List ℕ) (n : ℕ) → edge_words * n ≤ length e → leads_out_of e n t ≡ false
    → ((n ≡ kept_rows t e n) × Gathered t e e n) × (v ≡ lowered t e v n)
unfolding leads_out_of any
gathered_ahead t e v zero room h = (gathered_none t e, lowered_none t e v)
gathered_ahead t e v (suc n) room h =
    let other : source e n ≡ t → ⊥ = eqb-false (source e n) t (either-false_left _ _ h) in
    let ((rows, gathered), lower) = gathered_ahead t e v n (omega arith) (either-false_right _ _ h) in
    let (rows', gathered') = gathered_keeps t e n rows gathered (omega arith) other in
    rw (← add-one n)
    ((rows', subst (λ (l : List ℕ). Gathered t e l (n + 1)) (put_same e n) gathered'), lowered_skips t e v n lower gathered other)

-- the target of row i has its row
pub target_fits :
    (t : ℕ) (e v : List ℕ) {e' : List ℕ} (n i : ℕ) → TargetsFit v e n → i < n → Gathered t e e' i → vertex_words * target e' i + vertex_words ≤ length v
target_fits t e v n i fit lt g = rw (row_kept t e i target_word g) (fit i lt)

-- with the freed rows cleared, the gathered table is what a stop leaves
pub gathered_cleared :
    (t : ℕ) (e : List ℕ) {e' : List ℕ} {k : ℕ} (n : ℕ) → edge_words * n ≤ length e → k ≡ kept_rows t e n → Gathered t e e' n
    → clear e' (edge_words * k) (edge_words * n - edge_words * k) ≡ without_edges_of t e n
unfolding without_edges_of
gathered_cleared t e {e'} {k} n room r h =
    let w : k ≤ n = subst (λ (x : ℕ). x ≤ n) (sym r) h.within in
    let l = h.same_length in
    let back : edge_words * k + (edge_words * n - edge_words * k) ≡ edge_words * n = omega arith in
    clear_is e' (edge_words * k) (edge_words * n - edge_words * k) (omega arith)
    ∙ ap (λ (x : List ℕ). x ++ (replicate (edge_words * n - edge_words * k) 0 ++ drop (edge_words * k + (edge_words * n - edge_words * k)) e'))
    (ap (λ (x : ℕ). take (edge_words * x) e') r ∙ h.front)
    ∙ ap (λ (x : ℕ). kept t e n ++ (replicate (edge_words * n - edge_words * k) 0 ++ drop x e')) back
    ∙ ap (λ (x : List ℕ). kept t e n ++ (replicate (edge_words * n - edge_words * k) 0 ++ x)) h.rest
    ∙ ap (λ (x : ℕ). kept t e n ++ (replicate (edge_words * n - edge_words * x) 0 ++ drop (edge_words * n) e)) r

pub kept_fits : (t : ℕ) (e : List ℕ) (n : ℕ) {k : ℕ} → k ≡ kept_rows t e n → n ≤ usable_limit → k ≤ usable_limit
kept_fits t e n p h = omega (arith, kept_rows_le t e n)
