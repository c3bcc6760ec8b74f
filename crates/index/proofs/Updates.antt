-- What becomes of the edge table that an index stands for, where an edge is added in the index, handed on or dropped: what the command leaves.
use Prim.Native.Nat.{ℕ, suc, ◌+◌, ◌-◌, ◌*◌, ◌<◌, ◌≤◌}
use mathlib.Core.Path.{◌≡◌, sym, ◌∙◌, ap}
use mathlib.Core.Logic.{◌⊎◌, ⊎_elim}
use mathlib.Core.List.{List, [], ◌∷◌, ◌++◌, append_assoc}
use native.Mathlib.Omega.{arith}
use lib.ListN.{length, set, drop, replicate, length-set, length-append, replicate-append-replicate}
use lib.Seq.{drop_at, set_at, append_snoc, get_or-set_same, get_or-set_other}
use lib.Dec.{eqb}
use Rattle.graph.specs.Tests.{how_many}
use Rattle.graph.specs.Tables.{usable_limit, edge_words, source_word, target_word, source, target, set_edge_word}
use Rattle.graph.specs.Commands.{kept, kept_rows, appended, moved, without_edges_of}
use Rattle.graph.proofs.TableLaws.{appended_other, kept_rows_keep}
use Rattle.index.specs.Layout.{nowhere, SameRows}
use Rattle.index.specs.Table.{live_rows, table_of}
use Rattle.index.proofs.RowLaws.{kept_same, kept_rows_same}
use Rattle.index.proofs.KeptLaws.{length-kept, kept_ahead, moved_changes, kept_rows_changed, kept_changed}
use Rattle.index.proofs.KeptLaws.{kept_rows_dropped, kept_dropped, dropped_counted}
use Rattle.index.proofs.StandsFor.{behind, next_row}

-- ONE ROW MORE, behind the k rows of l
appended_seam : (l r : List ℕ) (k y z s t : ℕ) → length l ≡ edge_words * k → appended (l ++ (y ∷ z ∷ r)) k s t ≡ l ++ (s ∷ t ∷ r)
unfolding appended
appended_seam l r k y z s t long =
    ap (λ (w : List ℕ). set w (edge_words * k + target_word) t) (set_at l y (z ∷ r) s (edge_words * k + source_word) (omega arith))
    ∙ rw (← append_snoc l s (z ∷ r), ← append_snoc l s (t ∷ r))
    (set_at (l ++ (s ∷ [])) z r t (edge_words * k + target_word) (rw length-append (omega arith)))

-- the row that is appended to an index with room for it
module _ (x x' : List ℕ) (used s t : ℕ) (room : edge_words * suc used ≤ length x) (rows : SameRows (suc used) x' (appended x used s t)) where
  rows_before : SameRows used x' x
  rows_before i lt =
      let (p, q) = rows i (omega arith) in
      (p ∙ appended_other x used s t i source_word (omega arith) lt, q ∙ appended_other x used s t i target_word (omega arith) lt)

  new_source : source x' used ≡ s
  unfolding appended
  new_source =
      (rows used (omega arith)).0
      ∙ get_or-set_other (set_edge_word x used source_word s) (edge_words * used + target_word) (edge_words * used + source_word) t 0 (omega arith)
      ∙ get_or-set_same x (edge_words * used + source_word) s 0 (omega arith)

  new_target : target x' used ≡ t
  unfolding appended
  new_target =
      (rows used (omega arith)).1
      ∙ get_or-set_same (set_edge_word x used source_word s) (edge_words * used + target_word) t 0 (rw length-set (omega arith))

module _ (x x' : List ℕ) (used s t : ℕ) (usable : s < usable_limit) (rows : SameRows used x' x) (p : source x' used ≡ s) (q : target x' used ≡ t) where
  -- it is live, and stands behind those that were
  live_more : live_rows x' (suc used) ≡ suc (live_rows x used)
  live_more = kept_rows_keep nowhere x' used (λ z. omega arith) ∙ ap suc (kept_rows_same x' x nowhere used rows)

  kept_more : (r : List ℕ) → kept nowhere x' (suc used) ++ r ≡ kept nowhere x used ++ (s ∷ t ∷ r)
  kept_more r = kept_ahead nowhere x' used r (λ z. omega arith) ∙ rw (kept_same x' x nowhere used rows, p, q)

  -- a row of zeros was left below the peak
  below_peak :
      (peak : ℕ) (e : List ℕ) → suc (live_rows x used) ≤ peak → table_of x' (suc used) peak e ≡ appended (table_of x used peak e) (live_rows x used) s t
  unfolding table_of
  below_peak peak e low =
      let more : edge_words * peak - edge_words * live_rows x used ≡ suc (suc (edge_words * peak - edge_words * suc (live_rows x used))) = omega arith in
      rw (live_more, more) (kept_more _ ∙ sym (appended_seam (kept nowhere x used) _ (live_rows x used) 0 0 s t (length-kept nowhere x used)))

  -- the first row is taken of those that were only lent
  at_peak :
      (e : List ℕ) → edge_words * suc (live_rows x used) ≤ length e
      → table_of x' (suc used) (suc (live_rows x used)) e ≡ appended (table_of x used (live_rows x used) e) (live_rows x used) s t
  unfolding table_of
  at_peak e room =
      let before : edge_words * live_rows x used - edge_words * live_rows x used ≡ 0 = omega arith in
      let now : edge_words * suc (live_rows x used) - edge_words * suc (live_rows x used) ≡ 0 = omega arith in
      rw (live_more, before, now, next_row e (live_rows x used) room)
      (kept_more _ ∙ sym (appended_seam (kept nowhere x used) _ (live_rows x used) _ _ s t (length-kept nowhere x used)))

-- newEdge: the rows of before and one more
pub table_of_next :
    (x x' : List ℕ) (used peak peak' : ℕ) (e : List ℕ) (s t : ℕ) → s < usable_limit → edge_words * suc (live_rows x used) ≤ length e
    → ((peak' ≡ peak) × (suc (live_rows x used) ≤ peak)) ⊎ ((peak' ≡ suc (live_rows x used)) × (peak ≡ live_rows x used))
    → SameRows used x' x
    → source x' used ≡ s
    → target x' used ≡ t
    → (table_of x' (suc used) peak' e ≡ appended (table_of x used peak e) (live_rows x used) s t) × (live_rows x' (suc used) ≡ suc (live_rows x used))
table_of_next x x' used peak peak' e s t usable room peaks rows p q = (
  ⊎_elim
      (λ h. rw h.0 (below_peak x x' used s t usable rows p q peak e h.1))
      (λ h. rw (h.0, h.1) (at_peak x x' used s t usable rows p q e room))
      peaks,
  live_more x x' used s t usable rows p q,
)

-- where they are the rows of the index with a row appended
pub table_of-appended :
    (x x' : List ℕ) (used peak peak' : ℕ) (e : List ℕ) (s t : ℕ) → s < usable_limit → edge_words * suc (live_rows x used) ≤ length e
    → ((peak' ≡ peak) × (suc (live_rows x used) ≤ peak)) ⊎ ((peak' ≡ suc (live_rows x used)) × (peak ≡ live_rows x used))
    → edge_words * suc used ≤ length x
    → SameRows (suc used) x' (appended x used s t)
    → (table_of x' (suc used) peak' e ≡ appended (table_of x used peak e) (live_rows x used) s t) × (live_rows x' (suc used) ≡ suc (live_rows x used))
table_of-appended x x' used peak peak' e s t usable room peaks wide rows =
    table_of_next x x' used peak peak' e s t usable room peaks
    (rows_before x x' used s t wide rows)
    (new_source x x' used s t wide rows)
    (new_target x x' used s t wide rows)

-- transfer: the sources a are b
pub table_of-moved :
    (x x' : List ℕ) (used peak : ℕ) (e : List ℕ) (a b : ℕ) → a < usable_limit → b < usable_limit → edge_words * used ≤ length x
    → SameRows used x' (moved a b x used)
    → (table_of x' used peak e ≡ moved a b (table_of x used peak e) (live_rows x used)) × (live_rows x' used ≡ live_rows x used)
unfolding table_of
table_of-moved x x' used peak e a b from to wide rows =
    let c = moved_changes a b x x' used wide rows in
    let live : live_rows x' used ≡ live_rows x used = kept_rows_changed a b nowhere (λ z. omega arith) (λ z. omega arith) x x' used c in
    (rw live (kept_changed a b nowhere (λ z. omega arith) (λ z. omega arith) x x' used _ c), live)

-- zeros in two parts
zeros : (m n k : ℕ) (d : List ℕ) → m + n ≡ k → replicate k 0 ++ d ≡ replicate m 0 ++ (replicate n 0 ++ d)
zeros m n k d h = rw (← h, ← replicate-append-replicate {A = ℕ} m n 0, append_assoc)

-- stop: the rows out of a are dropped, each of which was live
pub table_of_dropped :
    (x x' : List ℕ) (used peak : ℕ) (e : List ℕ) (a : ℕ) → a < usable_limit → live_rows x used ≤ peak → edge_words * used ≤ length x
    → SameRows used x' (moved a nowhere x used)
    → (table_of x' used peak e ≡ without_edges_of a (table_of x used peak e) (live_rows x used))
    × (live_rows x' used ≡ kept_rows a (table_of x used peak e) (live_rows x used))
    × (live_rows x used ≡ live_rows x' used + how_many (λ i. eqb (source x i) a) used)
unfolding table_of without_edges_of
table_of_dropped x x' used peak e a usable few wide rows =
    let c = moved_changes a nowhere x x' used wide rows in
    let apart : a ≡ nowhere → ⊥ = λ z. omega arith in
    let r = behind (live_rows x used) peak e in
    let live : live_rows x' used ≡ kept_rows a (kept nowhere x used ++ r) (live_rows x used) = kept_rows_dropped nowhere a apart x x' used r c in
    let count : live_rows x used ≡ live_rows x' used + how_many (λ i. eqb (source x i) a) used = dropped_counted nowhere a apart x x' used c in (
      rw (← live, ← kept_dropped nowhere a apart x x' used r c, drop_at (kept nowhere x used) r _ (length-kept nowhere x used))
          (ap (λ (l : List ℕ). kept nowhere x' used ++ l)
          (zeros (edge_words * live_rows x used - edge_words * live_rows x' used) (edge_words * peak - edge_words * live_rows x used)
          (edge_words * peak - edge_words * live_rows x' used) (drop (edge_words * peak) e) (omega arith))),
      live,
      count,
    )
