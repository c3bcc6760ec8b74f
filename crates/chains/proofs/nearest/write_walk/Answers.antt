-- `write_walk` meets its contract: after k turns k vertices are written.
use Rattle.std.proofs.Common.{arith}
use Rattle.chains.proofs.WalkLaws.{along_usable, along_more, along_end}
use Rattle.chains.proofs.nearest.write_walk.Goals as goal

pub bounds-nearest-vertex : goal.bounds-nearest-vertex
bounds-nearest-vertex c = omega (arith, along_usable c.loop-k.invariant c.loop-k-test.true, c.requires.nearest_len.0)

pub loop-k-preserved : goal.loop-k-preserved
loop-k-preserved c = along_more c.loop-k.invariant c.loop-k-test.true c.requires.links_in_bounds

pub returns : goal.returns
returns c = along_end c.loop-k.invariant (omega arith) (omega arith) c.requires.links_in_bounds
