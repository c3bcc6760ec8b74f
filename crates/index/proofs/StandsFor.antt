-- The edge table that an index stands for: what it holds, and that at the beginning it is the table that was lent.
use Prim.Native.Nat.{ℕ, zero, suc, ◌+◌, ◌-◌, ◌*◌, ◌<◌, ◌≤◌}
use mathlib.Core.Path.{◌≡◌, refl, sym, ◌∙◌, ap, subst}
use mathlib.Core.Bool.{true}
use mathlib.Core.List.{List, ◌∷◌, ◌++◌}
use native.Mathlib.Omega.{arith}
use lib.ListN.{length, drop, replicate, length-append, length-drop, length-replicate}
use lib.Seq.{drop-cons}
use borrow.Author.Tests.{eqb-true, ltb-true}
use Rattle.graph.specs.Tables.{usable_limit, edge_words, edge_rows, source_word, target_word, source, target}
use Rattle.graph.specs.Paths.{Leads, one, more, holds, leads_out_of, reaches}
use Rattle.graph.specs.Sound.{ends_made, edges_made}
use Rattle.graph.specs.Commands.{kept, kept_rows, lowered}
use Rattle.graph.proofs.TestLaws.{same, both_left, both_right, every_at, any_at, any_found}
use Rattle.graph.proofs.PathLaws.{wider, held_row, path_reaches, reaches_path, reaches_is}
use Rattle.graph.proofs.EdgeLaws.{row_holds}
use Rattle.graph.proofs.TableLaws.{kept_rows_le, kept_rows_keep}
use Rattle.index.specs.Layout.{nowhere, SameRows}
use Rattle.index.specs.Table.{live_rows, table_of}
use Rattle.index.proofs.RowLaws.{kept_rows_same, table_of_same}
use Rattle.index.proofs.KeptLaws.{length-kept, kept_ahead, row_stands, row_came, lowered-kept}

-- what stands behind the rows of the table
abbrev pub behind : ℕ → ℕ → List ℕ → List ℕ
behind live peak e = replicate (edge_words * peak - edge_words * live) 0 ++ drop (edge_words * peak) e

-- no more rows are live than are used
pub live_few : (x : List ℕ) (used : ℕ) → live_rows x used ≤ used
live_few x used = kept_rows_le nowhere x used

module _ (x : List ℕ) (used peak : ℕ) (e : List ℕ) where
  -- it is as long as the table that was lent, and has as many rows
  pub length-table_of : live_rows x used ≤ peak → edge_words * peak ≤ length e → length (table_of x used peak e) ≡ length e
  unfolding table_of
  length-table_of few room = simp (length-append, length-replicate, length-drop, length-kept) (omega arith)

  pub edge_rows-table_of : live_rows x used ≤ peak → edge_words * peak ≤ length e → edge_rows (table_of x used peak e) ≡ edge_rows e
  edge_rows-table_of few room = rw (length-table_of few room)

  -- each row that was not dropped stands in the table, and no other does
  pub row_in_table :
      (i : ℕ) → i < used → (source x i ≡ nowhere → ⊥)
      → (j : ℕ) × (j < live_rows x used) × (source (table_of x used peak e) j ≡ source x i) × (target (table_of x used peak e) j ≡ target x i)
  unfolding table_of
  row_in_table = row_stands nowhere x used (behind (live_rows x used) peak e)

  pub row_of_table :
      (j : ℕ) → j < live_rows x used
      → (i : ℕ) × (i < used) × (source x i ≡ nowhere → ⊥)
      × (source (table_of x used peak e) j ≡ source x i) × (target (table_of x used peak e) j ≡ target x i)
  unfolding table_of
  row_of_table = row_came nowhere x used (behind (live_rows x used) peak e)

  -- so it holds the same edges
  pub held_before : (a b : ℕ) → holds (table_of x used peak e) (live_rows x used) a b ≡ true → holds x used a b ≡ true
  held_before a b h =
      let (j, lj, p, q) = held_row (table_of x used peak e) (live_rows x used) a b h in
      let (i, lt, ne, u, w) = row_of_table j lj in
      row_holds x used a b i lt (sym u ∙ p) (sym w ∙ q)

  held_after : (a b : ℕ) → a < usable_limit → holds x used a b ≡ true → holds (table_of x used peak e) (live_rows x used) a b ≡ true
  held_after a b usable h =
      let (i, lt, p, q) = held_row x used a b h in
      let (j, lj, u, w) = row_in_table i lt (λ z. omega arith) in
      row_holds (table_of x used peak e) (live_rows x used) a b j lj (u ∙ p) (w ∙ q)

  pub holds-table_of : (a b : ℕ) → a < usable_limit → holds (table_of x used peak e) (live_rows x used) a b ≡ holds x used a b
  holds-table_of a b usable = same _ _ (held_before a b) (held_after a b usable)

  pub out_table_of : (a : ℕ) → a < usable_limit → leads_out_of (table_of x used peak e) (live_rows x used) a ≡ leads_out_of x used a
  unfolding leads_out_of
  out_table_of a usable =
      same _ _
      (λ h.
      let (j, lj, p) = any_found _ (live_rows x used) h in
      let (i, lt, ne, u, w) = row_of_table j lj in
      any_at _ used i lt (rw (← u) p))
      (λ h.
      let (i, lt, p) = any_found _ used h in
      let (j, lj, u, w) = row_in_table i lt (λ z. let q = eqb-true (source x i) a p in omega arith) in
      any_at _ (live_rows x used) j lj (rw u p))

  -- and has the same paths: from a usable vertex none comes to a dropped row, to which no row leads
  module _ (targets : (i : ℕ) → i < used → target x i < usable_limit) where
    path_after : {a b : ℕ} → a < usable_limit → Leads (holds x used) a b → Leads (holds (table_of x used peak e) (live_rows x used)) a b
    path_after usable (one {a = a} {b = b} h) = one (held_after a b usable h)
    path_after usable (more {a = a} {b = b} h p) =
        let (i, lt, q, r) = held_row x used a b h in
        more (held_after a b usable h) (path_after (subst (λ (k : ℕ). k < usable_limit) r (targets i lt)) p)

    pub reaches-table_of : (a b : ℕ) → a < usable_limit → reaches (table_of x used peak e) (live_rows x used) a b ≡ reaches x used a b
    reaches-table_of a b usable =
        reaches_is x used a b (reaches (table_of x used peak e) (live_rows x used) a b)
        (λ h. wider held_before (reaches_path (table_of x used peak e) (live_rows x used) a b h))
        (λ p. path_reaches (table_of x used peak e) (live_rows x used) a b (path_after usable p))

  -- the in-counts lowered by it are those lowered by the index
  pub lowered-table_of : (a : ℕ) → a < usable_limit → (v : List ℕ) → lowered a (table_of x used peak e) v (live_rows x used) ≡ lowered a x v used
  unfolding table_of
  lowered-table_of a usable v = lowered-kept nowhere x a (λ z. omega arith) v used (behind (live_rows x used) peak e)

  -- where its edges have made ends, so has each row that was not dropped
  pub ends_made_lem :
      (made : ℕ) → edges_made (table_of x used peak e) made (live_rows x used) ≡ true
      → (i : ℕ) → i < used → (source x i ≡ nowhere → ⊥) → (source x i < made) × (target x i < made)
  unfolding edges_made ends_made
  ends_made_lem made h i lt ne =
      let (j, lj, p, q) = row_in_table i lt ne in
      let ends = every_at _ (live_rows x used) h j lj in (
        subst (λ (k : ℕ). k < made) p (ltb-true _ _ (both_left _ _ ends)),
        subst (λ (k : ℕ). k < made) q (ltb-true _ _ (both_right _ _ ends)),
      )

-- a table from row n on
pub next_row : (e : List ℕ) (n : ℕ) → edge_words * suc n ≤ length e → drop (edge_words * n) e ≡ source e n ∷ target e n ∷ drop (edge_words * suc n) e
next_row e n room =
    let first : edge_words * n ≡ edge_words * n + source_word = omega arith in
    let second : suc (edge_words * n + source_word) ≡ edge_words * n + target_word = omega arith in
    let third : suc (edge_words * n + target_word) ≡ edge_words * suc n = omega arith in
    ap (λ (k : ℕ). drop k e) first
    ∙ drop-cons e (edge_words * n + source_word) 0 (omega arith)
    ∙ ap (λ (k : ℕ). source e n ∷ drop k e) second
    ∙ ap (λ (l : List ℕ). source e n ∷ l) (drop-cons e (edge_words * n + target_word) 0 (omega arith))
    ∙ ap (λ (k : ℕ). source e n ∷ target e n ∷ drop k e) third

-- AT THE BEGINNING no row is dropped
module _ (e : List ℕ) where
  all_live : (n : ℕ) → ((i : ℕ) → i < n → source e i < usable_limit) → live_rows e n ≡ n
  all_live zero usable = unfold kept_rows in refl
  all_live (suc n) usable =
      kept_rows_keep nowhere e n (λ z. let lt = usable n (omega arith) in omega arith) ∙ ap suc (all_live n (λ i lt. usable i (omega arith)))

  all_kept : (n : ℕ) → ((i : ℕ) → i < n → source e i < usable_limit) → edge_words * n ≤ length e → kept nowhere e n ++ drop (edge_words * n) e ≡ e
  all_kept zero usable room = unfold kept in refl
  all_kept (suc n) usable room =
      kept_ahead nowhere e n _ (λ z. let lt = usable n (omega arith) in omega arith)
      ∙ ap (λ (l : List ℕ). kept nowhere e n ++ l) (sym (next_row e n room))
      ∙ all_kept n (λ i lt. usable i (omega arith)) (omega arith)

  -- so the table is the one that was lent
  pub table_of_lent :
      (x : List ℕ) (held : ℕ) → SameRows held x e → ((i : ℕ) → i < held → source e i < usable_limit) → edge_words * held ≤ length e
      → (table_of x held held e ≡ e) × (live_rows x held ≡ held)
  unfolding table_of
  table_of_lent x held rows usable room =
      let live : live_rows e held ≡ held = all_live held usable in
      let none : edge_words * held - edge_words * live_rows e held ≡ 0 = omega arith in (
        table_of_same x e held held e rows
            ∙ ap (λ (k : ℕ). kept nowhere e held ++ (replicate k 0 ++ drop (edge_words * held) e)) none
            ∙ all_kept held usable room,
        kept_rows_same x e nowhere held rows ∙ live,
      )
