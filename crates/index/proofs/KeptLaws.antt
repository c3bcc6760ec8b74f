-- A table that begins with the rows which another one keeps, those whose source is not t: what its rows are, and what comes of a change of sources.
use Prim.Native.Nat.{ℕ, zero, suc, ◌+◌, ◌*◌, ◌<◌, ◌≤◌}
use mathlib.Core.Path.{◌≡◌, refl, sym, ◌∙◌, ap}
use mathlib.Core.Logic.{⊎_elim}
use mathlib.Core.Bool.{Bool, true, false, cond}
use mathlib.Core.List.{List, [], ◌∷◌, ◌++◌, append_assoc}
use native.Mathlib.Omega.{arith}
use lib.ListN.{length, get_or, set, length-append}
use lib.Seq.{get_or-append-add, get_or_at, set_at, get_or-set_same, get_or-set_other, set-get_or}
use lib.Dec.{eqb}
use borrow.Author.Tests.{eq-eqb, ne_eqb}
use Rattle.graph.specs.Tests.{how_many}
use Rattle.graph.specs.Tables.{edge_words, source_word, target_word, source, target}
use Rattle.graph.specs.Commands.{kept, kept_rows, moved_row, moved, lowered_row, lowered}
use Rattle.graph.proofs.TestLaws.{equal?, below_suc}
use Rattle.graph.proofs.TableLaws.{kept_rows_drop, kept_rows_keep, kept_rows_le, kept_drop, kept_keep, lowered_keep}
use Rattle.graph.proofs.TableLaws.{length_moved, moved_out, moved-target}
use Rattle.index.specs.Layout.{SameRows}

-- A ROW AT THE SEAM, behind the k rows of l
module _ (l : List ℕ) (k : ℕ) (long : length l ≡ edge_words * k) (a b : ℕ) (r : List ℕ) where
  seam_source : source (l ++ (a ∷ b ∷ r)) k ≡ a
  seam_source = get_or_at l a (b ∷ r) 0 (edge_words * k + source_word) (omega arith)

  seam_target : target (l ++ (a ∷ b ∷ r)) k ≡ b
  seam_target = ap (λ (i : ℕ). get_or (l ++ (a ∷ b ∷ r)) (i + target_word) 0) (sym long) ∙ get_or-append-add l (a ∷ b ∷ r) target_word 0

-- one number more of which a test holds, or does not
how_many_so : (p : ℕ → Bool) (n : ℕ) → p n ≡ true → how_many p (suc n) ≡ how_many p n + 1
unfolding how_many
how_many_so p n h = rw h

how_many_not : (p : ℕ → Bool) (n : ℕ) → p n ≡ false → how_many p (suc n) ≡ how_many p n
unfolding how_many
how_many_not p n h = rw h (omega arith)

-- one row more in either table, with the same words
lowered_row_lem :
    (a : ℕ) (e f v : List ℕ) (k n : ℕ) → source e k ≡ source f n → target e k ≡ target f n → lowered a e v k ≡ lowered a f v n
    → lowered a e v (suc k) ≡ lowered a f v (suc n)
unfolding lowered lowered_row
lowered_row_lem a e f v k n p q h = rw (p, q, h)

kept_row :
    (a : ℕ) (l e : List ℕ) (k s u : ℕ) → source e k ≡ s → target e k ≡ u → (s ≡ a → ⊥) → l ≡ kept a e k → l ++ (s ∷ u ∷ []) ≡ kept a e (suc k)
kept_row a l e k s u p q ne h = rw (kept_keep a e k (λ z. ne (sym p ∙ z)), p, q, h)

-- THE ROWS KEPT
module _ (t : ℕ) (x : List ℕ) where
  -- the words of the rows kept
  pub length-kept : (n : ℕ) → length (kept t x n) ≡ edge_words * kept_rows t x n
  length-kept zero = unfold kept kept_rows in refl
  length-kept (suc n) =
      let before = length-kept n in
      ⊎_elim
      (λ q. rw (kept_drop t x n q, kept_rows_drop t x n q) before)
      (λ ne. rw (kept_keep t x n ne, kept_rows_keep t x n ne, length-append) (omega arith))
      (equal? (source x n) t)

  -- a row that is kept stands in front of what follows
  pub kept_ahead : (n : ℕ) (r : List ℕ) → (source x n ≡ t → ⊥) → kept t x (suc n) ++ r ≡ kept t x n ++ (source x n ∷ target x n ∷ r)
  kept_ahead n r ne = rw (kept_keep t x n ne, append_assoc)

  -- the row behind those kept
  next_source : (n a b : ℕ) (r : List ℕ) → source (kept t x n ++ (a ∷ b ∷ r)) (kept_rows t x n) ≡ a
  next_source n = seam_source (kept t x n) (kept_rows t x n) (length-kept n)

  next_target : (n a b : ℕ) (r : List ℕ) → target (kept t x n ++ (a ∷ b ∷ r)) (kept_rows t x n) ≡ b
  next_target n = seam_target (kept t x n) (kept_rows t x n) (length-kept n)

  -- each row that is kept is found there
  pub row_stands :
      (n : ℕ) (r : List ℕ) (i : ℕ) → i < n → (source x i ≡ t → ⊥)
      → (j : ℕ) × (j < kept_rows t x n) × (source (kept t x n ++ r) j ≡ source x i) × (target (kept t x n ++ r) j ≡ target x i)
  row_stands zero r i lt here = absurd (omega arith)
  row_stands (suc n) r i lt here =
      ⊎_elim
      (λ z.
      let ne : source x n ≡ t → ⊥ = λ q. here (ap (λ (j : ℕ). source x j) z ∙ q) in
      rw (kept_ahead n r ne, kept_rows_keep t x n ne, z)
      (kept_rows t x n, omega arith, next_source n (source x n) (target x n) r, next_target n (source x n) (target x n) r))
      (λ l.
      ⊎_elim
      (λ q. rw (kept_drop t x n q, kept_rows_drop t x n q) (row_stands n r i l here))
      (λ ne.
      rw (kept_ahead n r ne, kept_rows_keep t x n ne)
      (let (j, lj, p, q) = row_stands n (source x n ∷ target x n ∷ r) i l here in (j, omega arith, p, q)))
      (equal? (source x n) t))
      (below_suc lt)

  -- and no other
  pub row_came :
      (n : ℕ) (r : List ℕ) (j : ℕ) → j < kept_rows t x n
      → (i : ℕ) × (i < n) × (source x i ≡ t → ⊥) × (source (kept t x n ++ r) j ≡ source x i) × (target (kept t x n ++ r) j ≡ target x i)
  row_came zero r j lt = absurd (omega (arith, kept_rows_le t x 0))
  row_came (suc n) r j lt =
      ⊎_elim
      (λ q.
      rw (kept_drop t x n q)
      (let (i, li, ne, p, u) = row_came n r j (rw (kept_rows_drop t x n q) at lt) in (i, omega arith, ne, p, u)))
      (λ ne.
      rw (kept_ahead n r ne)
      (⊎_elim
      (λ z. rw z (n, omega arith, ne, next_source n _ _ r, next_target n _ _ r))
      (λ l. let (i, li, ne', p, u) = row_came n (source x n ∷ target x n ∷ r) j l in (i, omega arith, ne', p, u))
      (below_suc (rw (kept_rows_keep t x n ne) at lt))))
      (equal? (source x n) t)

  -- for each row out of a an in-count is lowered, in either table
  pub lowered-kept : (a : ℕ) → (a ≡ t → ⊥) → (v : List ℕ) (n : ℕ) (r : List ℕ) → lowered a (kept t x n ++ r) v (kept_rows t x n) ≡ lowered a x v n
  lowered-kept a apart v zero r = unfold kept_rows lowered in refl
  lowered-kept a apart v (suc n) r =
      let before : (s : List ℕ) → lowered a (kept t x n ++ s) v (kept_rows t x n) ≡ lowered a x v n = lowered-kept a apart v n in
      ⊎_elim
      (λ q.
      rw (kept_drop t x n q, kept_rows_drop t x n q)
      (before r ∙ sym (lowered_keep a x v n (λ z. apart (sym z ∙ q)))))
      (λ ne.
      rw (kept_ahead n r ne, kept_rows_keep t x n ne)
      (lowered_row_lem a _ x v (kept_rows t x n) n (next_source n _ _ r) (next_target n _ _ r) (before _)))
      (equal? (source x n) t)

-- SOURCES CHANGED
-- b in the place of a
abbrev changed : ℕ → ℕ → ℕ → ℕ
changed a b k = cond (eqb k a) b k

-- the first n rows of y are those of x, with the source b where that was a
abbrev pub Changed : ℕ → ℕ → ℕ → List ℕ → List ℕ → Type 0
Changed a b n x y = (i : ℕ) → i < n → (source y i ≡ changed a b (source x i)) × (target y i ≡ target x i)

module _ (a b : ℕ) where
  changed_from : (k : ℕ) → k ≡ a → changed a b k ≡ b
  changed_from k q = rw (eq-eqb k a q)

  changed_rest : (k : ℕ) → (k ≡ a → ⊥) → changed a b k ≡ k
  changed_rest k ne = rw (ne_eqb k a ne)

  -- a row is moved by a store of its source, changed or not
  moved_row_sets : (e : List ℕ) (i : ℕ) → moved_row a b e i ≡ set e (edge_words * i + source_word) (changed a b (source e i))
  unfolding moved_row
  moved_row_sets e i = go (eqb (source e i) a)
    where
      go : (c : Bool) → cond c (set e (edge_words * i + source_word) b) e ≡ set e (edge_words * i + source_word) (cond c b (source e i))
      go true = refl
      go false = sym (set-get_or e (edge_words * i + source_word) 0)

  moved_next : (x : List ℕ) (n : ℕ) → moved a b x (suc n) ≡ set (moved a b x n) (edge_words * n + source_word) (changed a b (source x n))
  unfolding moved
  moved_next x n =
      moved_row_sets (moved a b x n) n
      ∙ ap (λ (k : ℕ). set (moved a b x n) (edge_words * n + source_word) (changed a b k))
      (moved_out a b x n (edge_words * n + source_word) (λ q. let r = q.2 in omega arith))

  pub moved-source : (x : List ℕ) (n : ℕ) → edge_words * n ≤ length x → (i : ℕ) → i < n → source (moved a b x n) i ≡ changed a b (source x i)
  moved-source x zero room i lt = absurd (omega arith)
  moved-source x (suc n) room i lt =
      ap (λ (l : List ℕ). source l i) (moved_next x n)
      ∙ ⊎_elim
      (λ z. rw z (get_or-set_same (moved a b x n) (edge_words * n + source_word) _ 0 (rw length_moved (omega arith))))
      (λ l.
      get_or-set_other (moved a b x n) (edge_words * n + source_word) (edge_words * i + source_word) _ 0 (omega arith)
      ∙ moved-source x n (omega arith) i l)
      (below_suc lt)

  -- one row more, at the seam
  moved_row_lem :
      (l e r : List ℕ) (k s u : ℕ) → length l ≡ edge_words * k → source e k ≡ s → l ++ (s ∷ u ∷ r) ≡ moved a b e k
      → l ++ (changed a b s ∷ u ∷ r) ≡ moved a b e (suc k)
  moved_row_lem l e r k s u long p h =
      sym (set_at l s (u ∷ r) (changed a b s) (edge_words * k + source_word) (omega arith))
      ∙ rw (moved_next e k, p, h)

  -- what `moved` leaves
  pub moved_changes : (x y : List ℕ) (n : ℕ) → edge_words * n ≤ length x → SameRows n y (moved a b x n) → Changed a b n x y
  moved_changes x y n room rows i lt =
      let (p, q) = rows i lt in (p ∙ moved-source x n room i lt, q ∙ moved-target a b x n i)

  -- moving the rows kept is keeping the rows changed
  module _ (t : ℕ) (from : a ≡ t → ⊥) (to : b ≡ t → ⊥) (x y : List ℕ) where
    stays_dropped : (n : ℕ) → Changed a b (suc n) x y → source x n ≡ t → source y n ≡ t
    stays_dropped n c q = (c n (omega arith)).0 ∙ changed_rest (source x n) (λ z. from (sym z ∙ q)) ∙ q

    stays_kept : (n : ℕ) → Changed a b (suc n) x y → (source x n ≡ t → ⊥) → source y n ≡ t → ⊥
    stays_kept n c ne q =
        ⊎_elim
        (λ z. to (sym (changed_from (source x n) z) ∙ sym (c n (omega arith)).0 ∙ q))
        (λ z. ne (sym (changed_rest (source x n) z) ∙ sym (c n (omega arith)).0 ∙ q))
        (equal? (source x n) a)

    pub kept_rows_changed : (n : ℕ) → Changed a b n x y → kept_rows t y n ≡ kept_rows t x n
    kept_rows_changed zero c = unfold kept_rows in refl
    kept_rows_changed (suc n) c =
        let before : kept_rows t y n ≡ kept_rows t x n = kept_rows_changed n (λ i lt. c i (omega arith)) in
        ⊎_elim
        (λ q. rw (kept_rows_drop t x n q, kept_rows_drop t y n (stays_dropped n c q)) before)
        (λ ne. rw (kept_rows_keep t x n ne, kept_rows_keep t y n (stays_kept n c ne), before))
        (equal? (source x n) t)

    pub kept_changed : (n : ℕ) (r : List ℕ) → Changed a b n x y → kept t y n ++ r ≡ moved a b (kept t x n ++ r) (kept_rows t x n)
    kept_changed zero r c = unfold kept kept_rows moved in refl
    kept_changed (suc n) r c =
        let before : (s : List ℕ) → kept t y n ++ s ≡ moved a b (kept t x n ++ s) (kept_rows t x n) =
        λ s. kept_changed n s (λ i lt. c i (omega arith)) in
        let long : length (kept t y n) ≡ edge_words * kept_rows t x n = rw (← kept_rows_changed n (λ i lt. c i (omega arith))) (length-kept t y n) in
        ⊎_elim
        (λ q. rw (kept_drop t x n q, kept_drop t y n (stays_dropped n c q), kept_rows_drop t x n q) (before r))
        (λ ne.
        rw (kept_ahead t x n r ne, kept_ahead t y n r (stays_kept n c ne), kept_rows_keep t x n ne)
        (rw ((c n (omega arith)).0, (c n (omega arith)).1)
        (moved_row_lem (kept t y n) _ r (kept_rows t x n) _ _ long (next_source t x n _ _ r) (before _))))
        (equal? (source x n) t)

-- SOURCES DROPPED: where a is changed into t, row n was dropped before, or is dropped now, or is kept
data Fate (t a : ℕ) (x y : List ℕ) (n : ℕ) : Type 0 where
  gone : source x n ≡ t → source y n ≡ t → (source x n ≡ a → ⊥) → Fate t a x y n
  goes : (source x n ≡ t → ⊥) → source y n ≡ t → source x n ≡ a → Fate t a x y n
  stays : (source x n ≡ t → ⊥) → source y n ≡ source x n → target y n ≡ target x n → (source x n ≡ a → ⊥) → Fate t a x y n

module _ (t a : ℕ) (apart : a ≡ t → ⊥) (x y : List ℕ) where
  fate : (n : ℕ) → Changed a t (suc n) x y → Fate t a x y n
  fate n c =
      let (p, q) = c n (omega arith) in
      ⊎_elim
      (λ z. goes (λ w. apart (sym z ∙ w)) (p ∙ changed_from a t (source x n) z) z)
      (λ z.
      let same : source y n ≡ source x n = p ∙ changed_rest a t (source x n) z in
      ⊎_elim
      (λ w. gone w (same ∙ w) z)
      (λ w. stays w same q z)
      (equal? (source x n) t))
      (equal? (source x n) a)

  -- a row kept before is kept or is dropped now
  pub dropped_counted : (n : ℕ) → Changed a t n x y → kept_rows t x n ≡ kept_rows t y n + how_many (λ i. eqb (source x i) a) n
  dropped_counted zero c = unfold kept_rows how_many in refl
  dropped_counted (suc n) c = go (fate n c) (dropped_counted n (λ i lt. c i (omega arith)))
    where
      go :
          Fate t a x y n → kept_rows t x n ≡ kept_rows t y n + how_many (λ i. eqb (source x i) a) n
          → kept_rows t x (suc n) ≡ kept_rows t y (suc n) + how_many (λ i. eqb (source x i) a) (suc n)
      go (gone p q z) before = rw (kept_rows_drop t x n p, kept_rows_drop t y n q, how_many_not _ n (ne_eqb (source x n) a z)) before
      go (goes p q z) before = rw (kept_rows_keep t x n p, kept_rows_drop t y n q, how_many_so _ n (eq-eqb (source x n) a z)) (omega arith)
      go (stays p q u z) before =
          rw (kept_rows_keep t x n p, kept_rows_keep t y n (λ w. p (sym q ∙ w)), how_many_not _ n (ne_eqb (source x n) a z)) (omega arith)

  -- the rows kept then are those that are kept of the rows kept before, without a
  pub kept_rows_dropped : (n : ℕ) (r : List ℕ) → Changed a t n x y → kept_rows t y n ≡ kept_rows a (kept t x n ++ r) (kept_rows t x n)
  kept_rows_dropped zero r c = unfold kept_rows in refl
  kept_rows_dropped (suc n) r c = go (fate n c) (λ s. kept_rows_dropped n s (λ i lt. c i (omega arith)))
    where
      go :
          Fate t a x y n → ((s : List ℕ) → kept_rows t y n ≡ kept_rows a (kept t x n ++ s) (kept_rows t x n))
          → kept_rows t y (suc n) ≡ kept_rows a (kept t x (suc n) ++ r) (kept_rows t x (suc n))
      go (gone p q z) before = rw (kept_rows_drop t x n p, kept_drop t x n p, kept_rows_drop t y n q) (before r)
      go (goes p q z) before =
          rw (kept_rows_keep t x n p, kept_ahead t x n r p, kept_rows_drop t y n q)
          (before _ ∙ sym (kept_rows_drop a _ (kept_rows t x n) (next_source t x n _ _ r ∙ z)))
      go (stays p q u z) before =
          rw (kept_rows_keep t x n p, kept_ahead t x n r p, kept_rows_keep t y n (λ w. p (sym q ∙ w)))
          (ap suc (before _) ∙ sym (kept_rows_keep a _ (kept_rows t x n) (λ w. z (sym (next_source t x n _ _ r) ∙ w))))

  pub kept_dropped : (n : ℕ) (r : List ℕ) → Changed a t n x y → kept t y n ≡ kept a (kept t x n ++ r) (kept_rows t x n)
  kept_dropped zero r c = unfold kept kept_rows in refl
  kept_dropped (suc n) r c = go (fate n c) (λ s. kept_dropped n s (λ i lt. c i (omega arith)))
    where
      go :
          Fate t a x y n → ((s : List ℕ) → kept t y n ≡ kept a (kept t x n ++ s) (kept_rows t x n))
          → kept t y (suc n) ≡ kept a (kept t x (suc n) ++ r) (kept_rows t x (suc n))
      go (gone p q z) before = rw (kept_rows_drop t x n p, kept_drop t x n p, kept_drop t y n q) (before r)
      go (goes p q z) before =
          rw (kept_rows_keep t x n p, kept_ahead t x n r p, kept_drop t y n q)
          (before _ ∙ sym (kept_drop a _ (kept_rows t x n) (next_source t x n _ _ r ∙ z)))
      go (stays p q u z) before =
          rw (kept_rows_keep t x n p, kept_ahead t x n r p, kept_keep t y n (λ w. p (sym q ∙ w)), q, u)
          (kept_row a (kept t y n) _ (kept_rows t x n) _ _ (next_source t x n _ _ r) (next_target t x n _ _ r) z (before _))
