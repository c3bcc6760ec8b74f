use Prim.Native.Nat.{◌<◌}
use mathlib.Core.Path.{◌≡◌, refl}
use mathlib.Core.Bool.{true, false}
use native.Mathlib.Omega.{arith}
use lib.ListN.{length, get_or}
use Rattle.graph.specs.Internal.Search.{search_limit, Frontier}
use Rattle.graph.proofs.TestLaws.{true-false}
use Rattle.graph.proofs.RowLinks.{rows_into}
use Rattle.graph.proofs.Frontier.{room_blank, start, queued_usable, turn, answer_yes, answer_no, measured}
use Rattle.graph.proofs.paths.search_back.Goals as goal

pub loop-distances-init : goal.loop-distances-init
loop-distances-init c =
    (omega arith, room_blank c.requires.distances_value.0 c.requires.distances_value.1, start c.requires.distances_value.0 (c.requires.linked.starts _ (omega arith)))

pub scan-tail-requires : goal.scan-tail-requires
scan-tail-requires c =
    let inv = c.loop-distances.invariant in
    record {
      rows_from = rows_into _ _ _ _ _ c.requires.rows (omega arith) c.requires.linked inv.0;
      distance_nonzero = omega arith;
      room = inv.1;
    }

pub returns-then-distances-from-ne0 : goal.returns-then-distances-from-ne0
returns-then-distances-from-ne0 c =
    let looked : Frontier c.args.edges.now (length c.args.next.now) c.args.to c.loop-distances.vertex c.loop-distances.distance
    c.loop-distances.head 0 c.scan-tail.new.distances c.scan-tail.new.queue c.scan-tail.result =
    c.scan-tail.ensures.frontier _ _ _ _ _ (omega arith) c.loop-distances.invariant.2 in
    (answer_yes looked _ (omega arith), measured looked c.scan-tail.ensures.room _ true (λ h. omega arith))

pub returns-then-head-tail : goal.returns-then-head-tail
returns-then-head-tail c =
    let looked : Frontier c.args.edges.now (length c.args.next.now) c.args.to c.loop-distances.vertex c.loop-distances.distance
    c.loop-distances.head 0 c.scan-tail.new.distances c.scan-tail.new.queue c.scan-tail.result =
    c.scan-tail.ensures.frontier _ _ _ _ _ (omega arith) c.loop-distances.invariant.2 in (
      answer_no looked c.if-head-tail.true _ c.if-distances-from-ne0.false,
      measured looked c.scan-tail.ensures.room _ false (λ h. true-false h refl),
    )

pub loop-distances-preserved : goal.loop-distances-preserved
loop-distances-preserved c =
    let looked : Frontier c.args.edges.now (length c.args.next.now) c.args.to c.loop-distances.vertex c.loop-distances.distance
    c.loop-distances.head 0 c.scan-tail.new.distances c.scan-tail.new.queue c.scan-tail.result =
    c.scan-tail.ensures.frontier _ _ _ _ _ (omega arith) c.loop-distances.invariant.2 in
    let next_usable : (c.loop-distances.head ≡ c.scan-tail.result → ⊥)
    → (c.loop-distances.head < c.scan-tail.result) × (get_or c.scan-tail.new.queue c.loop-distances.head 0 < search_limit) =
    λ more. let lt : c.loop-distances.head < c.scan-tail.result = omega (arith, looked) in
    (lt, queued_usable looked c.scan-tail.ensures.room _ lt) in
    let (lt, below) = next_usable c.if-head-tail.false in
    (below, c.scan-tail.ensures.room, turn looked _ lt (c.requires.linked.starts _ below))

pub bounds-queue-head : goal.bounds-queue-head
bounds-queue-head c =
    let looked : Frontier c.args.edges.now (length c.args.next.now) c.args.to c.loop-distances.vertex c.loop-distances.distance
    c.loop-distances.head 0 c.scan-tail.new.distances c.scan-tail.new.queue c.scan-tail.result =
    c.scan-tail.ensures.frontier _ _ _ _ _ (omega arith) c.loop-distances.invariant.2 in
    omega (arith, looked)

pub bounds-distances-vertex : goal.bounds-distances-vertex
bounds-distances-vertex c =
    let looked : Frontier c.args.edges.now (length c.args.next.now) c.args.to c.loop-distances.vertex c.loop-distances.distance
    c.loop-distances.head 0 c.scan-tail.new.distances c.scan-tail.new.queue c.scan-tail.result =
    c.scan-tail.ensures.frontier _ _ _ _ _ (omega arith) c.loop-distances.invariant.2 in
    let next_usable : (c.loop-distances.head ≡ c.scan-tail.result → ⊥)
    → (c.loop-distances.head < c.scan-tail.result) × (get_or c.scan-tail.new.queue c.loop-distances.head 0 < search_limit) =
    λ more. let lt : c.loop-distances.head < c.scan-tail.result = omega (arith, looked) in
    (lt, queued_usable looked c.scan-tail.ensures.room _ lt) in
    omega (arith, next_usable c.if-head-tail.false)

pub loop-distances-smaller : goal.loop-distances-smaller
loop-distances-smaller c =
    let looked : Frontier c.args.edges.now (length c.args.next.now) c.args.to c.loop-distances.vertex c.loop-distances.distance
    c.loop-distances.head 0 c.scan-tail.new.distances c.scan-tail.new.queue c.scan-tail.result =
    c.scan-tail.ensures.frontier _ _ _ _ _ (omega arith) c.loop-distances.invariant.2 in
    omega (arith, looked)
