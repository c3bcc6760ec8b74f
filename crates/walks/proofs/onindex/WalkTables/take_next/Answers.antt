use mathlib.Core.Path.{refl, sym, ◌∙◌, ap}
use mathlib.Core.Bool.{not}
use native.Mathlib.Omega.{arith}
use lib.ListN.{length, length-set}
use Rattle.engine.proofs.LowestLaws.{late_free}
use Rattle.looks.proofs.OwnDue.{made_rows}
use Rattle.walks.proofs.FreeLaws.{still_ready, may_here, look_begins, left_tables, turned_over, taken_next, none_next}
use Rattle.walks.proofs.onindex.WalkTables.take_next.Goals as goal

pub returns-then-tally-ge-STEP_LIMIT : goal.returns-then-tally-ge-STEP_LIMIT
returns-then-tally-ge-STEP_LIMIT c =
    ((λ e is none_can. late_free _ _ _ _ c.if-tally-ge-STEP_LIMIT.true, refl, refl, c.requires.3.0, λ e is none_can. none_can), (refl, refl, refl))

pub first_open-vertex-requires : goal.first_open-vertex-requires
first_open-vertex-requires c =
    let rows = made_rows _ _ _ _ c.requires.0 in
    (rows.0, omega (arith, rows, c.requires.3.0), c.requires.2)

pub loop-vertex-init : goal.loop-vertex-init
loop-vertex-init c =
    let first = c.first_open-vertex.ensures in
    (refl, refl, first.0, look_begins _ _ _ _ _ _ _ _ c.requires.0 _ _ c.requires.2 c.requires.3 first, refl, refl)

pub step-moved-requires : goal.step-moved-requires
step-moved-requires c =
    let inv = c.loop-vertex.invariant in
    let same = sym inv.4 in
    let ready = c.requires.0 in (
      rw same at (still_ready _ _ _ _ _ _ ready inv.0 inv.1),
      c.requires.1,
      c.if-tally-ge-STEP_LIMIT.false,
      c.loop-vertex-test.true,
      may_here _ _ c.args.desk.now.busy.now c.loop-vertex.shut _ inv.0 (inv.3.here c.loop-vertex-test.true),
    )

pub returns-then-not-is_refused : goal.returns-then-not-is_refused
returns-then-not-is_refused c =
    let inv = c.loop-vertex.invariant in
    let stepped = rw inv.4 at c.step-moved.ensures.0 in (
      taken_next _ _ _ _ c.args.desk.now.busy.now c.args.shut.now _ _ c.requires.0 c.args.candidates c.loop-vertex.shut _ _
          inv.3 c.loop-vertex-test.true _ _ _ _ c.step-moved.result inv.0 inv.1 stepped
          c.found-behind.result c.settled-left.result
          c.reopened.result _ c.is_refused.ensures
          (ap not c.if-not-is_refused.true) c.found-behind.ensures
          c.settled-left.ensures c.reopened.ensures,
      (c.step-moved.ensures.1.0 ∙ inv.4, c.step-moved.ensures.1.1 ∙ ap length inv.0, c.step-moved.ensures.1.2 ∙ inv.5),
    )

pub look_further-vertex-requires : goal.look_further-vertex-requires
look_further-vertex-requires c =
    let inv = c.loop-vertex.invariant in
    let stepped = rw inv.4 at c.step-moved.ensures.0 in
    let left = left_tables _ _ _ _ c.args.desk.now.busy.now c.args.shut.now _ _ c.requires.0 c.args.candidates c.loop-vertex.shut _ _
    inv.3 c.loop-vertex-test.true _ _ _ _ c.step-moved.result inv.0 inv.1 stepped c.is_refused.ensures (ap not c.if-not-is_refused.false) in
    let same = sym (c.step-moved.ensures.1.0 ∙ inv.4) in (
      rw same at (still_ready _ _ _ _ _ _ c.requires.0 left.0 left.1),
      c.if-tally-ge-STEP_LIMIT.false,
      length-set c.loop-vertex.shut c.loop-vertex.vertex 1 ∙ inv.3.long,
    )

pub loop-vertex-preserved : goal.loop-vertex-preserved
loop-vertex-preserved c =
    let inv = c.loop-vertex.invariant in
    let stepped = rw inv.4 at c.step-moved.ensures.0 in
    let same = c.step-moved.ensures.1.0 ∙ inv.4 in
    let more = rw same at c.look_further-vertex.ensures.0 in
    let over = turned_over _ _ _ _ c.args.desk.now.busy.now c.args.shut.now _ _ c.requires.0 c.args.candidates c.loop-vertex.shut _ _
    inv.3 c.loop-vertex-test.true _ _ _ _ c.step-moved.result inv.0 inv.1 stepped
    c.is_refused.ensures (ap not c.if-not-is_refused.false) c.look_further-vertex.new.shut _ _ c.max-from.ensures more c.look_further-vertex.ensures.1 in
    (over.0, over.1, over.2, over.3, same, c.step-moved.ensures.1.2 ∙ inv.5)

pub returns : goal.returns
returns c =
    let inv = c.loop-vertex.invariant in (
      (none_next _ _ _ _ _ _ _ _ c.requires.0 _ _ _ _ inv.3 c.loop-vertex-test.false inv.2, inv.0, inv.1, inv.3.long, inv.3.barred),
      (inv.4, ap length inv.0, inv.5),
    )

pub found-behind-requires : goal.found-behind-requires
found-behind-requires c = omega (arith, c.loop-vertex-test.true, made_rows _ _ _ _ c.requires.0)

pub settled-left-requires : goal.settled-left-requires
settled-left-requires c =
    let same_vertices = c.step-moved.ensures.1.1 ∙ ap length c.loop-vertex.invariant.0 in
    omega (arith, same_vertices, (made_rows _ _ _ _ c.requires.0).0)

pub bounds-shut-vertex : goal.bounds-shut-vertex
bounds-shut-vertex c =
    omega (arith, c.loop-vertex-test.true, made_rows _ _ _ _ c.requires.0, c.loop-vertex.invariant.3.long)
