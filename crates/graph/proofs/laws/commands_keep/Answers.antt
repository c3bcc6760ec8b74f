-- The theorems, as they are proved.
use Rattle.graph.proofs.Demand2 as Demand2
use Rattle.graph.proofs.laws.commands_keep.Goals as goal

pub returns-clause-acyclic : goal.returns-clause-acyclic
returns-clause-acyclic c = Demand2.stays_acyclic

pub returns-clause-once : goal.returns-clause-once
returns-clause-once c = Demand2.none_held_twice

pub returns-clause-known : goal.returns-clause-known
returns-clause-known c = Demand2.stays_sound

pub returns-clause-held_already : goal.returns-clause-held_already
returns-clause-held_already c = Demand2.held_already
