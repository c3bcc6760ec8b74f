use Rattle.index.proofs.OutLaws.{out_first}
use Rattle.index.proofs.MoveLaws.{moving_first, moving_next, handed_over}
use Rattle.index.proofs.rows.move_out.Goals as goal

pub loop-left-init : goal.loop-left-init
loop-left-init c =
    let pre = c.requires in
    (out_first _ _ _ pre.0 pre.1, moving_first _ _ _ _ pre.0 pre.1)

pub loop-left-smaller : goal.loop-left-smaller
loop-left-smaller c =
    let pre = c.requires in
    (moving_next _ _ _ _ _ _ pre.0 pre.1 c.loop-left.invariant.0 c.loop-left-test.true c.loop-left.invariant.1).1

pub loop-left-preserved : goal.loop-left-preserved
loop-left-preserved c =
    let pre = c.requires in
    let next = moving_next _ _ _ _ _ _ pre.0 pre.1 c.loop-left.invariant.0 c.loop-left-test.true c.loop-left.invariant.1 in
    (next.0, next.2)

pub returns : goal.returns
returns c =
    let pre = c.requires in
    handed_over _ _ _ _ pre.0 pre.1 pre.2 pre.3 pre.4 _ _ c.loop-left-test.false c.loop-left.invariant.1
