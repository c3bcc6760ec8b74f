-- `asked` meets its contract: each case hinges on what its command does.
use Rattle.index.specs.Underway.{caller_of}
use Rattle.index.proofs.LookLaws.{executes_case, asked_case}
use Rattle.index.proofs.looks.asked.Goals as goal

pub asked_edge-requires : goal.asked_edge-requires
unfolding caller_of
asked_edge-requires c = (executes_case c.args.vertices.now c.args.course c.in-NewEdge.is c.requires.0, c.requires.1)

pub asked_transfer-requires : goal.asked_transfer-requires
unfolding caller_of
asked_transfer-requires c = (executes_case c.args.vertices.now c.args.course c.in-Transfer.is c.requires.0, c.requires.1)

pub returns-in-NewEdge : goal.returns-in-NewEdge
returns-in-NewEdge c = asked_case _ _ c.in-NewEdge.is c.asked_edge.result c.asked_edge.ensures

pub returns-in-Transfer : goal.returns-in-Transfer
returns-in-Transfer c = asked_case _ _ c.in-Transfer.is c.asked_transfer.result c.asked_transfer.ensures
