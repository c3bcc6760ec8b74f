-- The theorems, as they are proved.
use Rattle.chains.proofs.Theorems as Theorems
use Rattle.chains.proofs.laws.a_chain_is_why_a_cycle_would_close.Goals as goal

pub returns-clause-new_edge : goal.returns-clause-new_edge
returns-clause-new_edge c = Theorems.new_edge_shown

pub returns-clause-new_edge_passes : goal.returns-clause-new_edge_passes
returns-clause-new_edge_passes c = Theorems.new_edge_passes

pub returns-clause-transfer : goal.returns-clause-transfer
returns-clause-transfer c = Theorems.transfer_shown

pub returns-clause-transfer_passes : goal.returns-clause-transfer_passes
returns-clause-transfer_passes c = Theorems.transfer_passes
