-- The theorems, as they are proved.
use Rattle.machine.proofs.InCounts.{reached_true, calls_true, trace_true, reached_start}
use Rattle.machine.proofs.laws.in_counts_are_true.Goals as goal

pub returns-clause-reached : goal.returns-clause-reached
returns-clause-reached c ed bytes s₀ answers s = reached_true

pub returns-clause-calls : goal.returns-clause-calls
returns-clause-calls c = calls_true

pub returns-clause-traces : goal.returns-clause-traces
returns-clause-traces c ed bytes s₀ cs answers s = trace_true

pub returns-clause-starts : goal.returns-clause-starts
returns-clause-starts c ed bytes s₀ answers s = reached_start
