-- The measure is twice the length of the bytes, and one more for a body: it hands its items no more than it has, and an item its bodies less.
-- Before each item of a body the loop knows what the whole body comes to, from what is left of it.
use Rattle.std.proofs.Common.{◌+◌, ◌-◌, ◌*◌, length}
use Rattle.program.specs.Answers.{item_counts}
use Rattle.program.proofs.BodyLoop.{Along}
use Rattle.program.proofs.Reader.+body_item.Given as goal

abbrev pub decreases-body : goal.decreases-body
decreases-body l = 2 * length l.bytes.now + 1

abbrev pub decreases-item : goal.decreases-item
decreases-item l = 2 * length l.bytes.now

abbrev pub invariant-body-loop-from : goal.invariant-body-loop-from
invariant-body-loop-from l = Along l.bytes l.fn.inside l.self.place (item_counts l.fn.self.seen) l.reader l.here l.from

abbrev pub decreases-body-loop-from : goal.decreases-body-loop-from
decreases-body-loop-from l = length l.bytes - l.from
