-- The theorems, as they are proved.
use Rattle.graph.proofs.Demand2 as Demand2
use Rattle.graph.proofs.laws.commands_follow_the_rules.Goals as goal

pub returns-clause-effect : goal.returns-clause-effect
returns-clause-effect c = Demand2.effect

pub returns-clause-acceptance : goal.returns-clause-acceptance
returns-clause-acceptance c = Demand2.acceptance

pub returns-clause-rule : goal.returns-clause-rule
returns-clause-rule c = Demand2.by_the_rule

pub returns-clause-disjoint : goal.returns-clause-disjoint
returns-clause-disjoint c = Demand2.transfer_disjoint (λ E. Unit {0})

pub returns-clause-words : goal.returns-clause-words
returns-clause-words c = Demand2.words_stay
