use native.Mathlib.Omega.{arith}
use Prim.Native.Nat.{◌<◌}
use mathlib.Core.Path.{sym, ◌∙◌}
use borrow.Author.Tests.{eq-eqb, ne_eqb}
use Rattle.graph.proofs.TestLaws.{any_empty, any_more, any_at}
use Rattle.graph.proofs.edges.leads.Goals as goal

pub loop-row-init : goal.loop-row-init
loop-row-init c = any_empty _

pub returns-then-row-end : goal.returns-then-row-end
returns-then-row-end c =
    let rows = c.first_rows-row-items.ensures in
    let lt : c.loop-row.row-index < c.args.held = omega (arith, rows.count, c.loop-row-test.true) in
    sym (any_at _ _ _ lt (eq-eqb _ _ (sym (rows.word c.loop-row.row-index c.args.end lt c.requires.1) ∙ c.if-row-end.true)))

pub loop-row-preserved : goal.loop-row-preserved
loop-row-preserved c =
    let rows = c.first_rows-row-items.ensures in
    let lt : c.loop-row.row-index < c.args.held = omega (arith, rows.count, c.loop-row-test.true) in
    any_more _ _ c.loop-row.invariant
    (ne_eqb _ _ (λ e. c.if-row-end.false (rows.word c.loop-row.row-index c.args.end lt c.requires.1 ∙ e)))
