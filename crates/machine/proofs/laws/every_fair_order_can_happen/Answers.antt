-- The theorems, as they are proved.
use Rattle.machine.proofs.FairOrders as FairOrders
use Rattle.machine.proofs.laws.every_fair_order_can_happen.Goals as goal

pub returns-clause-loadings : goal.returns-clause-loadings
returns-clause-loadings c = FairOrders.fair_orders

pub returns-clause-onward : goal.returns-clause-onward
returns-clause-onward c ed bytes t s₀ answers s = FairOrders.onward_answers ed bytes t

pub returns-clause-traces : goal.returns-clause-traces
returns-clause-traces c ed bytes t s₀ answers s cs r = FairOrders.trace_fair r

pub returns-clause-steps : goal.returns-clause-steps
returns-clause-steps c ed bytes t s₀ answers s named r = FairOrders.trace_in_order r named
