use native.Mathlib.Omega.{arith}
use Rattle.looks.proofs.SiftLaws.{asking_more}
use Rattle.looks.proofs.look.Look.ask_window.Goals as goal

pub loop-i-preserved : goal.loop-i-preserved
loop-i-preserved c =
    let turn = c.loop-i in (
      omega arith,
      asking_more _ _ _ _ _ _ _ turn.starts turn.goals turn.kinds _ c.hinge_of-hinge.result turn.invariant.1 c.loop-i-test.true
          c.hinge_of-hinge.ensures,
    )
