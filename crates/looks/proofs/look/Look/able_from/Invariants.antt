-- Before a turn those that were looked at are shut, and cannot step.
use Prim.Native.Nat.{◌-◌}
use mathlib.Core.Path.{◌≡◌}
use lib.ListN.{length}
use Rattle.looks.proofs.OpenLaws.{Seeking}
use Rattle.looks.proofs.look.Look.able_from.Given as goal

abbrev pub invariant-loop-vertex : goal.invariant-loop-vertex
invariant-loop-vertex l =
    (length l.shut ≡ length l.initial.shut) × Seeking l.self.program.edition l.self.program.bytes.now l.self.vertices.now l.self.index.now l.self.busy.now l.self.course l.self.limit l.made l.from l.initial.shut l.shut l.vertex

abbrev pub decreases-loop-vertex : goal.decreases-loop-vertex
decreases-loop-vertex l = l.made - l.vertex
