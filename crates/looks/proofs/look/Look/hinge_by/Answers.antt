-- A pair; or whether it would be accepted.
use Rattle.looks.proofs.OwnDue.{rows_there, hinged_pair}
use Rattle.looks.proofs.look.Look.hinge_by.Goals as goal

pub returns-then-pair : goal.returns-then-pair
returns-then-pair c =
    hinged_pair _ _ _ _ _ c.asked.result (c.asked.ensures _ _ c.args.self.now.ready) c.in-Some.is c.if-pair.true

pub returns-else-pair : goal.returns-else-pair
returns-else-pair c =
    hinged_pair _ _ _ _ _ c.asked.result (c.asked.ensures _ _ c.args.self.now.ready) c.in-Some.is c.if-pair.false

pub asked-requires : goal.asked-requires
asked-requires c = (c.requires.0, rows_there c.args.self.now.ready)
