-- Before each turn the walk has come so far as `Walking` tells; what is lent keeps its length.
use Prim.Native.Nat.{◌-◌}
use mathlib.Core.Path.{◌≡◌}
use mathlib.Core.Bool.{false}
use lib.ListN.{length}
use Rattle.index.specs.Underway.{state_of}
use Rattle.machine.specs.Dispatching.{desk}
use Rattle.walks.specs.Internal.Handing.{SameDesk, SameTables}
use Rattle.walks.proofs.WalkLaws.{Walking}
use Rattle.walks.proofs.walk.walk_on.Given as goal

abbrev pub invariant-loop-walked : goal.invariant-loop-walked
invariant-loop-walked l =
    (length l.edges ≡ length l.initial.edges) × (length l.shut ≡ length l.initial.shut) × SameTables l.initial.tables l.tables × SameDesk l.initial.desk l.desk
    × Walking l.program.edition l.program.bytes.now l.initial.desk.hands l.budget l.initial.tables.limit (state_of l.initial.tables.vertices.now l.initial.tables.index.now l.fn.start l.initial.edges)
    (desk l.initial.desk.busy.now l.initial.desk.jobs.now 0) l.tables.vertices.now l.edges l.tables.index.now l.desk.busy.now l.desk.jobs.now l.shut l.walked.course
    l.candidates
    l.walked.last
    l.walked.taken
    l.walked.handed
    × (l.walked.over ≡ false)

abbrev pub decreases-loop-walked : goal.decreases-loop-walked
decreases-loop-walked l =
    l.budget - l.walked.taken
