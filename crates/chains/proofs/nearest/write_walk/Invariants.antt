-- after k turns k vertices are written
use Rattle.chains.proofs.WalkLaws.{Along}
use Rattle.chains.proofs.nearest.write_walk.Given as goal

abbrev pub invariant-loop-k : goal.invariant-loop-k
invariant-loop-k l = Along l.nearest l.links l.from l.fn.list l.k l.vertex l.list
