-- A refusal is the whole listing. Behind the heading each turn writes a line, until no vertex can step.
use Rattle.std.proofs.lemmas.Result.{on_ok_weaker}
use Rattle.listing.proofs.ListingLaws.{going_first, lists_refusal, going_on, lists_all, fewer_left}
use Rattle.listing.proofs.out.try_list.Goals as goal

pub returns-in-Err : goal.returns-in-Err
returns-in-Err g c = on_ok_weaker c.write_line.result (λ wrote. lists_refusal _ _ c.in-Err.refusal c.in-Err.ensures.line wrote) c.write_line.ensures

pub loop-step-init : goal.loop-step-init
loop-step-init g c = going_first _ _ _ _ c.in-Ok.ensures.line c.in_ok-write_line.ensures

pub loop-step-smaller : goal.loop-step-smaller
loop-step-smaller g c = fewer_left _ _ _ c.in-Some.step c.in-Some.after c.in-Some.ensures.line

pub loop-step-preserved : goal.loop-step-preserved
loop-step-preserved g c = going_on _ c.in-Some.step c.in-Some.after c.loop-step.invariant c.in-Some.ensures.line c.in_ok-write_line-2.ensures

pub returns : goal.returns
returns g c = lists_all c.loop-step.invariant c.in_default.ensures.line
