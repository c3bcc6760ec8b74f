-- Before a turn those were shut in the windows before it who cannot step.
use Prim.Native.Nat.{◌≤◌}
use Rattle.looks.specs.Looking.{Shuts}
use Rattle.looks.proofs.look.Look.sift.Given as goal

abbrev pub invariant-loop-window : goal.invariant-loop-window
invariant-loop-window l =
    (l.window ≤ 16) × Shuts l.self.program.edition l.self.program.bytes.now l.self.vertices.now l.self.index.now l.self.course l.self.limit l.initial.shut l.shut
