-- After some turns so many of the named vertices are stepped, and the tables are as long as before.
use mathlib.Core.Path.{◌≡◌}
use lib.ListN.{length}
use Rattle.graph.specs.Tables.{lent}
use Rattle.engine.proofs.PromiseLaws.{Onward}
use Rattle.engine.proofs.demand.load_and_step.Given as goal

abbrev pub invariant-loop-vertex : goal.invariant-loop-vertex
invariant-loop-vertex l =
    Onward l.edition l.program (lent l.initial.vertices l.initial.edges l.initial.after) l.named l.vertex-index (lent l.vertices l.edges l.after)
    × (length l.vertices ≡ length l.initial.vertices)
    × (length l.edges ≡ length l.initial.edges)
