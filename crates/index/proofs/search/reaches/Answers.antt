use Prim.Native.Nat.{◌-◌, ◌≤◌, ◌<◌}
use mathlib.Core.Path.{sym, ◌∙◌}
use native.Mathlib.Omega.{arith}
use Rattle.graph.specs.Tables.{source}
use Rattle.index.specs.Layout.{nowhere, before_in}
use Rattle.index.proofs.SearchLaws.{none_followed, row_followed, at_hand, row_leads, none_leads}
use Rattle.index.proofs.search.reaches.Goals as goal

pub loop-left-init : goal.loop-left-init
loop-left-init c = none_followed _ _ _ _ (c.requires.indexed.ins _ (omega arith))

pub loop-left-preserved : goal.loop-left-preserved
loop-left-preserved c =
    let row_good : (c.loop-left.left - 1 < c.args.used) × (source c.args.index.now (c.loop-left.left - 1) ≤ nowhere)
    × (before_in c.args.index.now (c.loop-left.left - 1) ≤ c.loop-left.left - 1) =
    at_hand _ _ _ _ c.requires.indexed c.loop-left.invariant _ (omega arith) in
    let indexed = c.requires.indexed in
    let good = row_good in
    row_followed _ _ _ _ c.loop-left.invariant _ (omega arith)
    (c.if-source-from.false, sym (indexed.ins _ good.1) ∙ c.if-index-source-ne0.false)
    (indexed.in_links _ good.0)

pub bounds-index-i : goal.bounds-index-i
bounds-index-i c =
    let row_good : (c.loop-left.left - 1 < c.args.used) × (source c.args.index.now (c.loop-left.left - 1) ≤ nowhere)
    × (before_in c.args.index.now (c.loop-left.left - 1) ≤ c.loop-left.left - 1) =
    at_hand _ _ _ _ c.requires.indexed c.loop-left.invariant _ (omega arith) in
    omega (arith, row_good, c.requires.indexed.long)

pub returns-then-source-from : goal.returns-then-source-from
returns-then-source-from c = row_leads _ _ _ _ c.loop-left.invariant _ (omega arith) c.if-source-from.true

pub loop-left-smaller : goal.loop-left-smaller
loop-left-smaller c =
    let row_good : (c.loop-left.left - 1 < c.args.used) × (source c.args.index.now (c.loop-left.left - 1) ≤ nowhere)
    × (before_in c.args.index.now (c.loop-left.left - 1) ≤ c.loop-left.left - 1) =
    at_hand _ _ _ _ c.requires.indexed c.loop-left.invariant _ (omega arith) in
    omega (arith, row_good)

pub returns : goal.returns
returns c = none_leads _ _ _ _ (rw c.loop-left-test.false at c.loop-left.invariant)
