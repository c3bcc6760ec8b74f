-- Before a turn the tables are as at the start, and the vertices below the one at hand were looked at.
use Prim.Native.Nat.{◌-◌, ◌≤◌}
use mathlib.Core.Path.{◌≡◌}
use Rattle.walks.proofs.FreeLaws.{Looked}
use Rattle.walks.proofs.onindex.WalkTables.take_next.Given as goal

abbrev pub invariant-loop-vertex : goal.invariant-loop-vertex
invariant-loop-vertex l =
    (l.self.vertices.now ≡ l.initial.self.vertices.now) × (l.self.index.now ≡ l.initial.self.index.now) × (l.vertex ≤ l.made)
    × Looked l.program.edition l.program.bytes.now l.initial.self.vertices.now l.initial.self.index.now l.desk.busy.now l.initial.shut l.course l.initial.self.limit l.candidates l.shut l.vertex l.told
    × (l.self.limit ≡ l.initial.self.limit)
    × (l.self.vertices.ghost_name ≡ l.initial.self.vertices.ghost_name)

abbrev pub decreases-loop-vertex : goal.decreases-loop-vertex
decreases-loop-vertex l = l.made - l.vertex
