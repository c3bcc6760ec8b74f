use Rattle.index.proofs.OutLaws.{out_first, out_next, held_first, held_next, held_here, held_end}
use Rattle.index.proofs.rows.is_held.Goals as goal

pub loop-left-init : goal.loop-left-init
loop-left-init c =
    let pre = c.requires in
    (out_first _ _ _ pre.0 pre.1, held_first _ _ _ _ pre.0 pre.1)

pub returns-then-index-i : goal.returns-then-index-i
returns-then-index-i c = held_here _ _ _ _ _ c.loop-left.invariant.0 c.loop-left-test.true c.if-index-i.true

pub loop-left-preserved : goal.loop-left-preserved
loop-left-preserved c =
    let pre = c.requires in
    let more = c.loop-left-test.true in (
      (out_next _ _ _ _ c.loop-left.invariant.0 more pre.0 pre.1).0,
      held_next _ _ _ _ _ pre.0 pre.1 c.loop-left.invariant.0 more c.if-index-i.false c.loop-left.invariant.1,
    )

pub loop-left-smaller : goal.loop-left-smaller
loop-left-smaller c =
    let pre = c.requires in
    (out_next _ _ _ _ c.loop-left.invariant.0 c.loop-left-test.true pre.0 pre.1).1

pub returns : goal.returns
returns c = held_end _ _ _ _ _ c.loop-left-test.false c.loop-left.invariant.1
