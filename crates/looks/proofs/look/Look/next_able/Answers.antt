-- None is open; the first one can step; or many are shut at once, and the others are looked at one after the other.
use native.Mathlib.Omega.{arith}
use Rattle.looks.proofs.OpenLaws.{open_may, shuts_both}
use Rattle.looks.proofs.OwnDue.{made_rows}
use Rattle.looks.proofs.look.Look.next_able.Goals as goal

pub next_open-first-requires : goal.next_open-first-requires
next_open-first-requires c = let rows = made_rows _ _ _ _ c.args.self.now.ready in (rows.0, omega (arith, rows, c.requires.1))

pub can_step-requires : goal.can_step-requires
can_step-requires c = (
  c.requires.0,
  c.if-made-first.false,
  open_may _ c.args.self.now.busy.now c.args.shut.now _ (c.next_open-first.ensures.1 c.if-made-first.false).1,
)

pub returns : goal.returns
returns c = let found = c.able_from.ensures in (shuts_both _ _ _ _ _ _ c.sift.ensures found.0, found.1, found.2)
