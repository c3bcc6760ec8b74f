-- The bytes from `before` up to the place are all 1 or 6, and each has turned what the byte at `before` tells of the place.
use Rattle.std.proofs.Common.{◌≤◌}
use Rattle.program.proofs.NumberEnds.{ToldBy}
use Rattle.program.proofs.starts.in_number.Given as goal

abbrev pub invariant-loop-before : goal.invariant-loop-before
invariant-loop-before l = (l.before ≤ l.place) × ToldBy l.program l.place l.before l.turned
