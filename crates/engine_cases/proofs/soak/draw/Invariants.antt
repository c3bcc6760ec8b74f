-- What is written and an end for each open body are within the slice. Each turn writes a byte or more.
use Rattle.std.proofs.Common.{◌+◌, ◌-◌, ◌≤◌, length, ◌≡◌}
use Rattle.engine_cases.proofs.soak.draw.Given as goal

abbrev pub invariant-loop-open : goal.invariant-loop-open
invariant-loop-open l = (l.at + l.«open» ≤ length l.program) × (length l.program ≡ length l.initial.program)

abbrev pub decreases-loop-open : goal.decreases-loop-open
decreases-loop-open l = length l.program - l.at
