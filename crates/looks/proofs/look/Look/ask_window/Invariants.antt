-- Before turn i the first i were asked.
use Prim.Native.Nat.{◌≤◌}
use Rattle.reachability.specs.Pairs.{pair_limit}
use Rattle.looks.specs.Looking.{Asking}
use Rattle.looks.proofs.look.Look.ask_window.Given as goal

abbrev pub invariant-loop-i : goal.invariant-loop-i
invariant-loop-i l =
    (l.i ≤ pair_limit) × Asking l.self.program.edition l.self.program.bytes.now l.self.vertices.now l.self.index.now l.self.course l.self.limit l.base l.starts l.goals l.kinds l.i
