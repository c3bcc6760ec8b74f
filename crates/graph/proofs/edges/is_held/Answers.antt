use native.Mathlib.Omega.{arith}
use Prim.Native.Nat.{◌<◌}
use mathlib.Core.Path.{sym, ◌∙◌}
use Rattle.graph.proofs.EdgeLoops.{held_none, held_other_source, held_other_target, held_found}
use Rattle.graph.proofs.edges.is_held.Goals.{else-row-source-via-then-row-source+else-row-target, else-row-source-via-else-row-source}
use Rattle.graph.proofs.edges.is_held.Goals as goal

pub loop-row-init : goal.loop-row-init
loop-row-init c = held_none _ _ _

pub returns-then-row-target : goal.returns-then-row-target
returns-then-row-target c =
    let rows = c.first_rows-row-items.ensures in
    let lt : c.loop-row.row-index < c.args.held = omega (arith, rows.count, c.loop-row-test.true) in
    held_found _ _ _ _ _ lt (sym (rows.word c.loop-row.row-index 0 lt (omega arith)) ∙ c.if-row-source.true)
    (sym (rows.word c.loop-row.row-index 1 lt (omega arith)) ∙ c.if-row-target.true)

pub loop-row-preserved : goal.loop-row-preserved
loop-row-preserved c =
    let rows = c.first_rows-row-items.ensures in
    let lt : c.loop-row.row-index < c.args.held = omega (arith, rows.count, c.loop-row-test.true) in
    elim c.else-row-source.branch [
      | else-row-source-via-then-row-source+else-row-target w ↦
          held_other_target _ _ _ _ c.loop-row.invariant (λ e. w.if-row-target.false (rows.word c.loop-row.row-index 1 lt (omega arith) ∙ e))
      | else-row-source-via-else-row-source w ↦
          held_other_source _ _ _ _ c.loop-row.invariant (λ e. w.if-row-source.false (rows.word c.loop-row.row-index 0 lt (omega arith) ∙ e))
    ]
