-- `find_nearest` meets its contract: behind so many rows the lowest of these is found.
use Rattle.std.proofs.Common.{ℕ, List, sym, subst, arith}
use Rattle.graph.proofs.RowLinks.{ends_made_lem}
use Rattle.graph.proofs.TestLaws.{true-false}
use Rattle.chains.specs.Internal.Walk.{Nearest}
use Rattle.chains.proofs.NearestLaws.{row_at, row_same, row_put, nearest_none, nearest_same}
use Rattle.chains.proofs.nearest.find_nearest.Goals as goal

pub loop-row-init : goal.loop-row-init
loop-row-init c =
    subst (λ (l : List ℕ). Nearest c.args.edges.now 0 c.args.to c.args.distances.now l) (sym c.requires.nearest_value)
    (nearest_none _ _ _)

pub is_nearer-requires-clause-source_lt_search_limit : goal.is_nearer-requires-clause-source_lt_search_limit
is_nearer-requires-clause-source_lt_search_limit c =
    let (lt, from, to) = row_at c.first_rows-row-items.ensures c.loop-row-test.true in
    rw (from, to) (ends_made_lem _ _ c.loop-row.row-index c.requires.rows lt)

pub loop-row-preserved-then-not-is_nearer : goal.loop-row-preserved-then-not-is_nearer
loop-row-preserved-then-not-is_nearer c =
    let (lt, from, to) = row_at c.first_rows-row-items.ensures c.loop-row-test.true in
    nearest_same _ _ _ _ _ c.loop-row.invariant (λ h. true-false (rw (from, to) h) (sym c.if-not-is_nearer.ensures))

pub bounds-nearest-source : goal.bounds-nearest-source
bounds-nearest-source c =
    let (lt, from, to) = row_at c.first_rows-row-items.ensures c.loop-row-test.true in
    let usable = ends_made_lem c.args.edges.now _ c.loop-row.row-index c.requires.rows lt in
    omega (arith, from, usable.0, c.loop-row.invariant.long)

pub loop-row-preserved-then-nearest-source : goal.loop-row-preserved-then-nearest-source
loop-row-preserved-then-nearest-source c =
    let (lt, from, to) = row_at c.first_rows-row-items.ensures c.loop-row-test.true in
    row_same _ _ _ _ _ c.loop-row.invariant from to c.if-nearest-source.true

pub loop-row-preserved : goal.loop-row-preserved
loop-row-preserved c =
    let (lt, from, to) = row_at c.first_rows-row-items.ensures c.loop-row-test.true in
    let usable = ends_made_lem c.args.edges.now _ c.loop-row.row-index c.requires.rows lt in
    row_put _ _ _ _ _ c.loop-row.invariant from to (sym c.if-not-is_nearer.ensures) c.if-nearest-source.false usable.0
