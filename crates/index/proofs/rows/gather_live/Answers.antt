use Prim.Native.Nat.{◌+◌, ◌*◌, ◌≤◌}
use mathlib.Core.Path.{refl}
use native.Mathlib.Omega.{arith}
use lib.ListN.{length, length-set}
use Rattle.graph.specs.Tables.{edge_words}
use Rattle.index.proofs.HandLaws.{live_before, written_none, written_skips, written_puts}
use Rattle.index.proofs.rows.gather_live.Goals as goal

pub loop-i-preserved-then-source-eq-NOWHERE : goal.loop-i-preserved-then-source-eq-NOWHERE
loop-i-preserved-then-source-eq-NOWHERE c =
    let (rows, table) = c.loop-i.invariant.2 in
    (omega arith, c.loop-i.invariant.1, written_skips _ _ _ _ _ c.if-source-eq-NOWHERE.true rows table)

pub loop-i-preserved : goal.loop-i-preserved
loop-i-preserved c =
    let room : edge_words * c.loop-i.live + edge_words ≤ length c.loop-i.edges =
    omega (arith, live_before c.args.index.now c.args.used c.loop-i.i c.loop-i-test.true c.if-source-eq-NOWHERE.false) in
    let (rows, table) = c.loop-i.invariant.2 in
    (omega arith, simp length-set c.loop-i.invariant.1, written_puts _ _ _ _ _ c.if-source-eq-NOWHERE.false (omega (arith, room)) rows table)

pub loop-i-init : goal.loop-i-init
loop-i-init c = (omega arith, refl, written_none _ _)

pub overflow_mul-edges : goal.overflow_mul-edges
overflow_mul-edges c =
    let room : edge_words * c.loop-i.live + edge_words ≤ length c.loop-i.edges =
    omega (arith, live_before c.args.index.now c.args.used c.loop-i.i c.loop-i-test.true c.if-source-eq-NOWHERE.false) in
    omega (arith, room)

pub overflow_add-edges : goal.overflow_add-edges
overflow_add-edges c =
    let room : edge_words * c.loop-i.live + edge_words ≤ length c.loop-i.edges =
    omega (arith, live_before c.args.index.now c.args.used c.loop-i.i c.loop-i-test.true c.if-source-eq-NOWHERE.false) in
    omega (arith, room)

pub offset_bounds-edges-live : goal.offset_bounds-edges-live
offset_bounds-edges-live c =
    let room : edge_words * c.loop-i.live + edge_words ≤ length c.loop-i.edges =
    omega (arith, live_before c.args.index.now c.args.used c.loop-i.i c.loop-i-test.true c.if-source-eq-NOWHERE.false) in
    omega (arith, room)

pub bounds-edges-live : goal.bounds-edges-live
bounds-edges-live c =
    let room : edge_words * c.loop-i.live + edge_words ≤ length c.loop-i.edges =
    omega (arith, live_before c.args.index.now c.args.used c.loop-i.i c.loop-i-test.true c.if-source-eq-NOWHERE.false) in
    omega (arith, room)

pub overflow_mul-edges-in-loop-i-2 : goal.overflow_mul-edges-in-loop-i-2
overflow_mul-edges-in-loop-i-2 c =
    let room : edge_words * c.loop-i.live + edge_words ≤ length c.loop-i.edges =
    omega (arith, live_before c.args.index.now c.args.used c.loop-i.i c.loop-i-test.true c.if-source-eq-NOWHERE.false) in
    omega (arith, room)

pub overflow_add-edges-in-loop-i-2 : goal.overflow_add-edges-in-loop-i-2
overflow_add-edges-in-loop-i-2 c =
    let room : edge_words * c.loop-i.live + edge_words ≤ length c.loop-i.edges =
    omega (arith, live_before c.args.index.now c.args.used c.loop-i.i c.loop-i-test.true c.if-source-eq-NOWHERE.false) in
    omega (arith, room)

pub offset_bounds-edges-live-in-loop-i : goal.offset_bounds-edges-live-in-loop-i
offset_bounds-edges-live-in-loop-i c =
    let room : edge_words * c.loop-i.live + edge_words ≤ length c.loop-i.edges =
    omega (arith, live_before c.args.index.now c.args.used c.loop-i.i c.loop-i-test.true c.if-source-eq-NOWHERE.false) in
    omega (arith, room)

pub bounds-edges-live-in-loop-i : goal.bounds-edges-live-in-loop-i
bounds-edges-live-in-loop-i c =
    let room : edge_words * c.loop-i.live + edge_words ≤ length c.loop-i.edges =
    omega (arith, live_before c.args.index.now c.args.used c.loop-i.i c.loop-i-test.true c.if-source-eq-NOWHERE.false) in
    simp length-set (omega (arith, room))

pub overflow_add-live : goal.overflow_add-live
overflow_add-live c =
    let room : edge_words * c.loop-i.live + edge_words ≤ length c.loop-i.edges =
    omega (arith, live_before c.args.index.now c.args.used c.loop-i.i c.loop-i-test.true c.if-source-eq-NOWHERE.false) in
    omega (arith, room)
