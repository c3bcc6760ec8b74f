-- The theorems, as they are proved.
use Rattle.chains.proofs.Theorems as Theorems
use Rattle.chains.proofs.laws.a_chain_is_shown_or_refused.Goals as goal

pub returns-clause-refused : goal.returns-clause-refused
returns-clause-refused c = Theorems.chain_refused_exactly

pub returns-clause-accepted : goal.returns-clause-accepted
returns-clause-accepted c = Theorems.chain_accepted_exactly

pub returns-clause-shown : goal.returns-clause-shown
returns-clause-shown c = Theorems.chain_shown

pub returns-clause-keeps : goal.returns-clause-keeps
returns-clause-keeps c = Theorems.refused_keeps_list
