-- None can once the steps are used up; else as the first open vertex that can step tells.
use Rattle.looks.proofs.LookLaws.{late_look, looked}
use Rattle.looks.proofs.look.Look.anyone_can.Goals as goal

pub returns-then-tally-ge-STEP_LIMIT : goal.returns-then-tally-ge-STEP_LIMIT
returns-then-tally-ge-STEP_LIMIT c = late_look _ _ _ _ _ _ _ _ c.if-tally-ge-STEP_LIMIT.true

pub returns : goal.returns
returns c =
    let first = c.next_able-first.ensures in
    looked _ _ _ _ _ _ _ c.args.self.now.ready _ _ _ first.0 first.1 first.2
