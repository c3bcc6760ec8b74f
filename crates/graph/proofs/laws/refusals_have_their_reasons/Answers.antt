-- The theorems, as they are proved.
use Rattle.graph.proofs.Reasons as Reasons
use Rattle.graph.proofs.Demand2 as Demand2
use Rattle.graph.proofs.laws.refusals_have_their_reasons.Goals as goal

pub returns-clause-exactly : goal.returns-clause-exactly
returns-clause-exactly c = Reasons.command_refused

pub returns-clause-keeps : goal.returns-clause-keeps
returns-clause-keeps c = Demand2.refused_keeps

pub returns-clause-place : goal.returns-clause-place
returns-clause-place c = Reasons.refused_place

pub returns-clause-never_34 : goal.returns-clause-never_34
returns-clause-never_34 c = Reasons.never_34

pub returns-clause-new_edge_cycle : goal.returns-clause-new_edge_cycle
returns-clause-new_edge_cycle c = Reasons.new_edge_cycle

pub returns-clause-transfer_cycle : goal.returns-clause-transfer_cycle
returns-clause-transfer_cycle c = Reasons.transfer_cycle

pub returns-clause-edge_in : goal.returns-clause-edge_in
returns-clause-edge_in c = Reasons.start_edge_in
