-- The rows that were not dropped, written in order to the front of an edge table, and zeros behind them.
use Prim.Native.Nat.{ℕ, zero, suc, ◌+◌, ◌-◌, ◌*◌, ◌≤◌, ◌<◌}
use mathlib.Core.Path.{◌≡◌, refl, sym, ◌∙◌, ap, subst}
use mathlib.Core.Logic.{⊎_elim}
use mathlib.Core.List.{List, [], ◌∷◌, ◌++◌, append_assoc}
use native.Mathlib.Numerals.{add-one}
use native.Mathlib.Omega.{arith}
use lib.ListN.{length, get_or, drop, set, replicate, length-append, length-drop}
use lib.Seq.{drop-cons, append_snoc, set_at, take_at, drop-append-add, drop-drop}
use Rattle.graph.specs.Tables.{edge_words, source_word, target_word, source, target, clear}
use Rattle.graph.specs.Commands.{kept, kept_rows}
use Rattle.graph.proofs.TestLaws.{equal?, below_suc}
use Rattle.graph.proofs.TableLaws.{kept_rows_drop, kept_rows_keep, kept_drop, kept_keep}
use Rattle.graph.proofs.ClearLaws.{clear_is}
use Rattle.index.specs.Layout.{nowhere}
use Rattle.index.specs.Table.{live_rows, table_of}
use Rattle.index.proofs.KeptLaws.{length-kept}

-- a row that is live is counted further on
live_le : (x : List ℕ) (n : ℕ) → live_rows x n ≤ live_rows x (suc n)
live_le x n =
    ⊎_elim (λ q. omega (arith, kept_rows_drop nowhere x n q)) (λ ne. omega (arith, kept_rows_keep nowhere x n ne)) (equal? (source x n) nowhere)

pub live_before : (x : List ℕ) (n i : ℕ) → i < n → (source x i ≡ nowhere → ⊥) → live_rows x i < live_rows x n
live_before x zero i lt ne = absurd (omega arith)
live_before x (suc n) i lt ne =
    ⊎_elim
    (λ q. subst (λ (k : ℕ). live_rows x k < live_rows x (suc n)) (sym q)
    (omega (arith, kept_rows_keep nowhere x n (λ r. ne (ap (source x) q ∙ r)))))
    (λ l. omega (arith, live_before x n i l ne, live_le x n))
    (below_suc lt)

-- a row in place of the two words behind l
two_put :
    (l e : List ℕ) (s t k : ℕ) → length l ≡ k → k + edge_words ≤ length e
    → set (set (l ++ drop k e) (k + source_word) s) (k + target_word) t ≡ (l ++ (s ∷ t ∷ [])) ++ drop (k + edge_words) e
two_put l e s t k q room =
    let here : length l ≡ k + source_word = q ∙ omega arith in
    let next : length (l ++ (s ∷ [])) ≡ k + target_word = length-append l (s ∷ []) ∙ omega arith in
    let on : suc (suc k) ≡ k + edge_words = omega arith in
    ap (λ (r : List ℕ). set (set (l ++ r) (k + source_word) s) (k + target_word) t)
    (drop-cons e k 0 (omega arith) ∙ ap (λ (r : List ℕ). get_or e k 0 ∷ r) (drop-cons e (suc k) 0 (omega arith)))
    ∙ ap (λ (r : List ℕ). set r (k + target_word) t)
    (set_at l (get_or e k 0) (get_or e (suc k) 0 ∷ drop (suc (suc k)) e) s (k + source_word) here
    ∙ sym (append_snoc l s (get_or e (suc k) 0 ∷ drop (suc (suc k)) e)))
    ∙ set_at (l ++ (s ∷ [])) (get_or e (suc k) 0) (drop (suc (suc k)) e) t (k + target_word) next
    ∙ append_snoc l s (t ∷ drop (suc (suc k)) e)
    ∙ sym (append_assoc l (s ∷ t ∷ []) (drop (suc (suc k)) e))
    ∙ ap (λ (j : ℕ). (l ++ (s ∷ t ∷ [])) ++ drop j e) on

module _ (x e : List ℕ) where
  abbrev pub written : ℕ → List ℕ
  written n = kept nowhere x n ++ drop (edge_words * live_rows x n) e

  pub written_none : (0 ≡ live_rows x 0) × (e ≡ written 0)
  unfolding kept kept_rows
  written_none = (refl, refl)

  -- a dropped row
  pub written_skips :
      (e' : List ℕ) (live n : ℕ) → source x n ≡ nowhere → live ≡ live_rows x n → e' ≡ written n
      → (live ≡ live_rows x (n + 1)) × (e' ≡ written (n + 1))
  written_skips e' live n q rows table =
      rw (add-one n) (
        rows ∙ sym (kept_rows_drop nowhere x n q),
        table ∙ sym (ap (λ (l : List ℕ). l ++ drop (edge_words * live_rows x (suc n)) e) (kept_drop nowhere x n q)
            ∙ ap (λ (k : ℕ). kept nowhere x n ++ drop (edge_words * k) e) (kept_rows_drop nowhere x n q)),
      )

  -- any other
  put_written :
      (n : ℕ) → (source x n ≡ nowhere → ⊥) → edge_words * live_rows x n + edge_words ≤ length e
      → set (set (written n) (edge_words * live_rows x n + source_word) (source x n)) (edge_words * live_rows x n + target_word) (target x n)
      ≡ written (suc n)
  put_written n ne room =
      let on : edge_words * live_rows x n + edge_words ≡ edge_words * live_rows x (suc n) = omega (arith, kept_rows_keep nowhere x n ne) in
      two_put (kept nowhere x n) e (source x n) (target x n) (edge_words * live_rows x n) (length-kept nowhere x n) room
      ∙ ap (λ (l : List ℕ). l ++ drop (edge_words * live_rows x n + edge_words) e) (sym (kept_keep nowhere x n ne))
      ∙ ap (λ (k : ℕ). kept nowhere x (suc n) ++ drop k e) on

  pub written_puts :
      (e' : List ℕ) (live n : ℕ) → (source x n ≡ nowhere → ⊥) → edge_words * live + edge_words ≤ length e → live ≡ live_rows x n → e' ≡ written n
      → (live + 1 ≡ live_rows x (n + 1))
      × (set (set e' (edge_words * live + source_word) (source x n)) (edge_words * live + target_word) (target x n) ≡ written (n + 1))
  written_puts e' live n ne room rows table =
      rw (rows, table, add-one n)
      (omega (arith, kept_rows_keep nowhere x n ne), put_written n ne (subst (λ (k : ℕ). edge_words * k + edge_words ≤ length e) rows room))

  length-written : (n : ℕ) → edge_words * live_rows x n ≤ length e → length (written n) ≡ length e
  length-written n room =
      length-append (kept nowhere x n) (drop (edge_words * live_rows x n) e)
      ∙ omega (arith, length-kept nowhere x n, length-drop (edge_words * live_rows x n) e)

  -- zeros up to the peak
  drop-written :
      (n m peak : ℕ) → edge_words * live_rows x n + m ≡ edge_words * peak → drop (edge_words * live_rows x n + m) (written n) ≡ drop (edge_words * peak) e
  drop-written n m peak q =
      ap (λ (k : ℕ). drop (k + m) (written n)) (sym (length-kept nowhere x n))
      ∙ drop-append-add (kept nowhere x n) (drop (edge_words * live_rows x n) e) m
      ∙ drop-drop m (edge_words * live_rows x n) e
      ∙ ap (λ (k : ℕ). drop k e) q

  cleared :
      (n peak : ℕ) → live_rows x n ≤ peak → edge_words * peak ≤ length e
      → clear (written n) (edge_words * live_rows x n) (edge_words * peak - edge_words * live_rows x n) ≡ table_of x n peak e
  unfolding table_of
  cleared n peak le room =
      let at : ℕ = edge_words * live_rows x n in
      let zeros : ℕ = edge_words * peak - edge_words * live_rows x n in
      clear_is (written n) at zeros (omega (arith, length-written n (omega arith)))
      ∙ ap (λ (l : List ℕ). l ++ (replicate zeros 0 ++ drop (at + zeros) (written n)))
      (take_at (kept nowhere x n) (drop at e) at (length-kept nowhere x n))
      ∙ ap (λ (l : List ℕ). kept nowhere x n ++ (replicate zeros 0 ++ l)) (drop-written n zeros peak (omega arith))

  pub handed_back :
      (e' e'' : List ℕ) (live n peak : ℕ) → live ≡ live_rows x n → e' ≡ written n → live_rows x n ≤ peak → edge_words * peak ≤ length e
      → e'' ≡ clear e' (edge_words * live) (edge_words * peak - edge_words * live) → e'' ≡ table_of x n peak e
  handed_back e' e'' live n peak rows table le room done =
      done
      ∙ ap (λ (k : ℕ). clear e' (edge_words * k) (edge_words * peak - edge_words * k)) rows
      ∙ ap (λ (l : List ℕ). clear l (edge_words * live_rows x n) (edge_words * peak - edge_words * live_rows x n)) table
      ∙ cleared n peak le room
