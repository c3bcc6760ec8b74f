-- The theorems, as they are proved.
use Rattle.machine.proofs.Calls.{calls_reached}
use Rattle.machine.proofs.Traces.{trace_answers}
use Rattle.machine.proofs.laws.calls_are_reached.Goals as goal

pub returns-clause-calls : goal.returns-clause-calls
returns-clause-calls c ed bytes s₀ cs answers s = calls_reached ed bytes s₀ cs s

pub returns-clause-traces : goal.returns-clause-traces
returns-clause-traces c ed bytes s₀ cs answers s = trace_answers
