use Prim.Native.Nat.{◌+◌}
use mathlib.Core.Path.{refl, ◌∙◌}
use native.Mathlib.Omega.{arith}
use lib.ListN.{length-set}
use Rattle.looks.proofs.SiftLaws.{shut_told_lem, shut_not, shut_none}
use Rattle.looks.proofs.sift.shut_told.Goals as goal
use Rattle.looks.proofs.sift.shut_told.Goals.{then-is_refused, else-is_refused}

pub loop-i-init : goal.loop-i-init
loop-i-init c = (omega arith, refl, shut_none _ _ _ _ _)

pub loop-i-preserved : goal.loop-i-preserved
loop-i-preserved c =
    let turn = c.loop-i in
    elim c.if-is_refused.branch [
      | then-is_refused h ↦
          rw h.shut-is (
            omega arith,
            length-set turn.shut (c.args.base + turn.i) 1 ∙ turn.invariant.1,
            shut_told_lem _ c.args.told.now c.args.kinds.now _ _ _ turn.invariant.2 c.is_refused.ensures h.if-is_refused.true,
          )
      | else-is_refused h ↦
          rw h.shut-is (
            omega arith,
            turn.invariant.1,
            shut_not _ c.args.told.now c.args.kinds.now _ _ _ turn.invariant.2 c.is_refused.ensures h.if-is_refused.false,
          )
    ]
