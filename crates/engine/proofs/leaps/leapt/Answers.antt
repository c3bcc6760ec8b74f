-- By sixty-four, then by eight, then by one.
use Rattle.engine.proofs.LeapLaws.{leapt_none, leapt_all}
use Rattle.engine.proofs.leaps.leapt.Goals as goal

pub returns-in_err-from : goal.returns-in_err-from
returns-in_err-from c = rw c.from_residual.ensures (leapt_none _ _ _ _ c.in_err-from.ensures.value)

pub returns : goal.returns
returns c =
    leapt_all _ c.args.leaps.now _ _ c.in_ok-from.from _ _ c.hopped.result c.in_ok-from.ensures.value c.in_ok-from.ensures.is_made
    c.hopped-far.ensures.1 c.hopped-near.ensures.1 c.hopped.ensures.0 c.hopped.ensures.1 c.open_future-2.ensures.value
