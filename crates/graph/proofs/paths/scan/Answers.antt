use Prim.Native.Nat.{◌-◌}
use native.Mathlib.Omega.{arith}
use Rattle.graph.proofs.RowLinks.{linked_row}
use Rattle.graph.proofs.Frontier.{room_left, room_taken, seen, found}
use Rattle.graph.proofs.paths.scan.Goals as goal

pub bounds-queue-end : goal.bounds-queue-end
bounds-queue-end c =
    room_left c.loop-left.invariant.1.room _ (omega (arith, linked_row _ _ c.args.row (c.loop-left.left - 1) c.requires.rows_from (omega arith))) c.if-distances-mark-eq0.true

pub loop-left-preserved-then-distances-mark-eq0 : goal.loop-left-preserved-then-distances-mark-eq0
loop-left-preserved-then-distances-mark-eq0 c =
    let good = linked_row _ _ c.args.row (c.loop-left.left - 1) c.requires.rows_from (omega arith) in
    let so_far = c.loop-left.invariant.1 in
    let links = c.requires.rows_from.links in (
      omega arith,
      record {
        room = room_taken so_far.room _ _ (omega arith) (omega arith) c.if-distances-mark-eq0.true;
        frontier =
            λ n to v d head p f.
            found (so_far.frontier n to v d head p f) _ _ _ (omega arith) (links _ (omega arith)) p (omega arith) (bounds-queue-end c) c.if-distances-mark-eq0.true;
      },
    )

pub loop-left-preserved : goal.loop-left-preserved
loop-left-preserved c =
    let good = linked_row _ _ c.args.row (c.loop-left.left - 1) c.requires.rows_from (omega arith) in
    let so_far = c.loop-left.invariant.1 in
    let links = c.requires.rows_from.links in (
      omega arith,
      record {
        room = so_far.room;
        frontier = λ n to v d head p f. seen (so_far.frontier n to v d head p f) _ _ (omega arith) (links _ (omega arith)) (omega arith);
      },
    )

pub bounds-distances-mark : goal.bounds-distances-mark
bounds-distances-mark c =
    omega (arith, linked_row _ _ c.args.row (c.loop-left.left - 1) c.requires.rows_from (omega arith))

pub bounds-distances-mark-then-distances-mark-eq0 : goal.bounds-distances-mark-then-distances-mark-eq0
bounds-distances-mark-then-distances-mark-eq0 c = omega (arith, linked_row _ _ c.args.row (c.loop-left.left - 1) c.requires.rows_from (omega arith))

pub loop-left-smaller-then-distances-mark-eq0 : goal.loop-left-smaller-then-distances-mark-eq0
loop-left-smaller-then-distances-mark-eq0 c =
    omega (arith, linked_row _ _ c.args.row (c.loop-left.left - 1) c.requires.rows_from (omega arith))

pub loop-left-smaller : goal.loop-left-smaller
loop-left-smaller c =
    omega (arith, linked_row _ _ c.args.row (c.loop-left.left - 1) c.requires.rows_from (omega arith))
