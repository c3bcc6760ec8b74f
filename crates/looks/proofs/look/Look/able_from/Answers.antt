use Prim.Native.Nat.{◌<◌}
use mathlib.Core.Path.{sym, ◌∙◌}
use native.Mathlib.Omega.{arith}
use lib.ListN.{length, length-set}
use Rattle.looks.proofs.OpenLaws.{open_may, seeking_on}
use Rattle.looks.proofs.OwnDue.{made_rows}
use Rattle.looks.proofs.look.Look.able_from.Goals as goal

pub loop-vertex-preserved : goal.loop-vertex-preserved
loop-vertex-preserved c =
    let short : c.loop-vertex.vertex < length c.loop-vertex.shut =
    omega (arith, c.loop-vertex-test.true, (made_rows _ _ _ _ c.args.self.now.ready).1, c.loop-vertex.invariant.0, c.requires.1) in (
      length-set c.loop-vertex.shut c.loop-vertex.vertex 1 ∙ c.loop-vertex.invariant.0,
      seeking_on _ _ _ _ _ _ _ _ _ _ _ _ _ c.loop-vertex.invariant.1 c.loop-vertex-test.true short
          (λ e rows. sym (c.can_step.ensures e rows) ∙ c.if-can_step.false)
          c.next_open-vertex-in-loop-vertex.ensures,
    )

pub next_open-vertex-requires : goal.next_open-vertex-requires
next_open-vertex-requires c = let rows = made_rows _ _ _ _ c.args.self.now.ready in (rows.0, omega (arith, rows, c.requires.1))

pub can_step-requires : goal.can_step-requires
can_step-requires c =
    (c.requires.0, c.loop-vertex-test.true, open_may _ c.args.self.now.busy.now c.loop-vertex.shut _ (c.loop-vertex.invariant.1.first.1 c.loop-vertex-test.true).1)

pub bounds-shut-vertex : goal.bounds-shut-vertex
bounds-shut-vertex c =
    let short : c.loop-vertex.vertex < length c.loop-vertex.shut =
    omega (arith, c.loop-vertex-test.true, (made_rows _ _ _ _ c.args.self.now.ready).1, c.loop-vertex.invariant.0, c.requires.1) in
    short

pub next_open-vertex-requires-in-loop-vertex : goal.next_open-vertex-requires-in-loop-vertex
next_open-vertex-requires-in-loop-vertex c =
    let rows = made_rows _ _ _ _ c.args.self.now.ready in (rows.0, omega (arith, rows, c.requires.1, c.loop-vertex.invariant.0, length-set c.loop-vertex.shut c.loop-vertex.vertex 1))
