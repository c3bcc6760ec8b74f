-- The theorems, as they are proved.
use Rattle.chains.proofs.Theorems as Theorems
use Rattle.chains.proofs.laws.chains_are_the_first_of_the_shortest.Goals as goal

pub returns-clause-first : goal.returns-clause-first
returns-clause-first c = Theorems.shortest_chain_lem

pub returns-clause-exactly : goal.returns-clause-exactly
returns-clause-exactly c = Theorems.none_exactly

pub returns-clause-only_one : goal.returns-clause-only_one
returns-clause-only_one c E a b l l' = Theorems.only_one
