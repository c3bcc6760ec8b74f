-- The theorems, as they are proved.
use Rattle.program.proofs.Refusals as Refusals
use Rattle.program.proofs.laws.refusals_say_what_is_wrong.Goals as goal

pub returns-clause-outside : goal.returns-clause-outside
returns-clause-outside c = Refusals.outside_exactly

pub returns-clause-run_out : goal.returns-clause-run_out
returns-clause-run_out c = Refusals.run_out

pub returns-clause-after_end : goal.returns-clause-after_end
returns-clause-after_end c = Refusals.after_end

pub returns-clause-blame : goal.returns-clause-blame
returns-clause-blame c = Refusals.blame

pub returns-clause-once : goal.returns-clause-once
returns-clause-once c = Refusals.blame_unique

pub returns-clause-crowded : goal.returns-clause-crowded
returns-clause-crowded c = Refusals.crowded_exactly
