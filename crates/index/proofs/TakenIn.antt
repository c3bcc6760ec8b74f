-- Held edges that were taken in: the index stands for what was lent.
use Prim.Native.Nat.{ℕ, ◌*◌, ◌<◌, ◌≤◌}
use mathlib.Core.Path.{◌≡◌, sym, ◌∙◌, ap, subst}
use mathlib.Core.Bool.{true}
use mathlib.Core.List.{List}
use native.Mathlib.Omega.{arith}
use lib.ListN.{length}
use Rattle.graph.specs.declared.Tally.{Tally}
use Rattle.graph.specs.Tables.{lent, edge_words, usable_limit, edge_rows, source}
use Rattle.graph.specs.Paths.{holds}
use Rattle.graph.specs.Sound as of_graph
use Rattle.graph.proofs.PathLaws.{holds_at}
use Rattle.graph.proofs.SoundLaws.{Fits, sound_fits, fits_sound}
use Rattle.graph.proofs.SoundChecks.{sound_rows}
use Rattle.index.specs.declared.Course.{Course}
use Rattle.index.specs.Layout.{Indexed, SameRows}
use Rattle.index.specs.Table.{live_rows, table_of}
use Rattle.index.specs.Underway.{state_of, Ready}
use Rattle.index.proofs.RowLaws.{holds_same}
use Rattle.index.proofs.StandsFor.{edge_rows-table_of, held_before, table_of_lent}

-- the course that begins there
abbrev pub begun : Tally → Course
begun t = record { tally = t; used = t.held; peak = t.held }

module _ (v x e : List ℕ) (t : Tally) (known : of_graph.sound (lent v e t) ≡ true) (rows : SameRows t.held x e) where
  fits : Fits (lent v e t)
  fits = sound_fits (lent v e t) known

  room : (edge_words * t.held ≤ length e) × (t.held ≤ usable_limit)
  room = let r = sound_rows (lent v e t) known in omega arith

  usable : (i : ℕ) → i < t.held → source e i < usable_limit
  usable i lt =
      let made = (fits.ends_are_made _ _ (holds_at e t.held i lt)).0 in
      omega (arith, made, sound_rows (lent v e t) known)

  -- what was lent is what it stands for
  same_table : (table_of x t.held t.held e ≡ e) × (live_rows x t.held ≡ t.held)
  same_table = table_of_lent e x t.held rows usable room.0

  pub stands_for_lent : state_of v x (begun t) e ≡ lent v e t
  stands_for_lent =
      ap (λ (l : List ℕ). record { vertices = v; edges = l; made = t.made; held = t.held; steps = t.steps }) same_table.0

  -- and it is sound, whatever stands behind the rows
  still_sound : (e' : List ℕ) → edge_rows e' ≡ edge_rows e → of_graph.sound (state_of v x (begun t) e') ≡ true
  still_sound e' same =
      fits_sound (state_of v x (begun t) e')
      (record {
        vertices_fit = fits.vertices_fit;
        edges_fit = let p = fits.edges_fit in let q : edge_rows (table_of x t.held t.held e') ≡ edge_rows e' = edge_rows-table_of x t.held t.held e' few long in omega arith;
        statuses_are_known = fits.statuses_are_known;
        ends_are_made =
            λ a b h.
            fits.ends_are_made a b
            (sym (holds_same x e t.held rows a b)
            ∙ held_before x t.held t.held e' a b (subst (λ (n : ℕ). holds (table_of x t.held t.held e') n a b ≡ true) (sym same_table.1) h));
      })
    where
      few : live_rows x t.held ≤ t.held
      few = let p = same_table.1 in omega arith

      long : edge_words * t.held ≤ length e'
      long = let p = fits.edges_fit in omega arith

  pub taken_in : Indexed x t.held → Ready v x (begun t) (edge_rows e)
  taken_in indexed =
      record {
        indexed = indexed;
        live = sym same_table.1;
        below_peak = omega arith;
        within = fits.edges_fit;
        few = omega arith;
        sound = still_sound;
      }
