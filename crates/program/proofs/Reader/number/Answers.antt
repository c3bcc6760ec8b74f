use Rattle.std.proofs.Common.{arith, ◌∙◌}
use Rattle.program.proofs.NumberLoop.{after_none, after_more, run_out, over, found}
use Rattle.program.proofs.Reader.number.Goals as goal

pub loop-i-init : goal.loop-i-init
loop-i-init c = after_none _

pub returns-in_default : goal.returns-in_default
returns-in_default c =
    rw (c.refused.ensures, c.moved.ensures.0)
    (run_out _ _ _ _ _ _ c.loop-i.invariant c.loop-i-test.true c.in_default.ensures.lookup.3)

pub returns-then-group-lt-TOP_BIT : goal.returns-then-group-lt-TOP_BIT
returns-then-group-lt-TOP_BIT c =
    let is = c.in-Some.ensures.lookup.3.1 0 in
    (rw is at c.number_ended.ensures)
    ∙ found _ _ _ _ _ _ c.loop-i.invariant c.loop-i-test.true c.in-Some.ensures.lookup.3.0 (omega (arith, c.if-group-lt-TOP_BIT.true, is))

pub loop-i-preserved : goal.loop-i-preserved
loop-i-preserved c =
    let is = c.in-Some.ensures.lookup.3.1 0 in
    rw is
    (after_more _ _ _ _ c.loop-i.invariant c.loop-i-test.true c.in-Some.ensures.lookup.3.0 (omega (arith, c.type_inv.bytes c.loop-i.i))
    (omega (arith, c.if-group-lt-TOP_BIT.false, is)))

pub returns : goal.returns
returns c = rw c.refused-2.ensures (over _ _ _ _ _ _ c.loop-i.invariant c.loop-i-test.false)
