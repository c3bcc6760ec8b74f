-- The theorems, as they are proved.
use Rattle.machine.specs.Loading.{load}
use Rattle.machine.specs.Reached.{begun}
use Rattle.machine.proofs.Calls.{calls_reached}
use Rattle.machine.proofs.Traces.{trace_reached}
use Rattle.machine.proofs.Demand3.{demand3}
use Rattle.machine.proofs.Traces.{list_demand3, trace_demand3}
use Rattle.machine.proofs.laws.demand_3.Goals as goal

pub returns-clause-reached : goal.returns-clause-reached
returns-clause-reached c ed bytes t s₀ answers s r q = demand3 ed bytes t r q

pub returns-clause-calls : goal.returns-clause-calls
returns-clause-calls c ed bytes s₀ cs h =
    let (t, r, _) = list_demand3 ed bytes s₀ h cs in
    (t, r, calls_reached ed bytes s₀ cs (load ed bytes s₀).after (begun h), demand3 ed bytes t r)

pub returns-clause-traces : goal.returns-clause-traces
returns-clause-traces c ed bytes s₀ cs answers s tr = let (t, r, _) = trace_demand3 tr in (t, r, trace_reached tr, demand3 ed bytes t r)
