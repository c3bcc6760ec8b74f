use mathlib.Core.Path.{refl}
use Rattle.looks.proofs.OwnDue.{made_rows}
use Rattle.looks.proofs.look.Look.sift.Goals as goal

pub fill_leaps-requires : goal.fill_leaps-requires
fill_leaps-requires c = let rows = made_rows _ _ _ _ c.args.self.now.ready in (rows.0, rows.1, refl)
