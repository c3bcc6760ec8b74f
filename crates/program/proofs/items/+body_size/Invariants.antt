-- The search for a body's end: it skips item by item, and for an item the bodies that it holds. The measure is the number of bytes.
use Rattle.std.proofs.Common.{◌-◌, length}
use Rattle.program.proofs.SkipLaws.{Searched}
use Rattle.program.proofs.items.+body_size.Given as goal

abbrev pub decreases-body_size : goal.decreases-body_size
decreases-body_size l = length l.bytes.now

-- the bytes before `from` are items of the body
abbrev pub invariant-loop-from : goal.invariant-loop-from
invariant-loop-from l = Searched l.bytes l.from

abbrev pub decreases-loop-from : goal.decreases-loop-from
decreases-loop-from l = length l.bytes - l.from
