-- after so many rows the lowest of these rows is found
use Rattle.chains.specs.Internal.Walk.{Nearest}
use Rattle.chains.proofs.nearest.find_nearest.Given as goal

abbrev pub invariant-loop-row : goal.invariant-loop-row
invariant-loop-row l = Nearest l.edges l.row-index l.to l.distances l.nearest
