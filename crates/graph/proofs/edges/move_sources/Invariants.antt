-- After i turns the first i rows have their new sources.
use Prim.Native.Nat.{◌≤◌}
use mathlib.Core.Path.{◌≡◌}
use Rattle.graph.specs.Commands.{moved}
use Rattle.graph.proofs.edges.move_sources.Given as goal

abbrev pub invariant-loop-i : goal.invariant-loop-i
invariant-loop-i l = (l.i ≤ l.held) × (l.edges ≡ moved l.from l.to l.initial.edges l.i)
