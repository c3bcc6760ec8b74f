-- Every move keeps the shape: those that make a vertex (ShapeMakes), and the others (ShapeActs). A force needs its future to be open.
use Prim.Native.Nat.{ℕ}
use Rattle.machine.proofs.GhostMachine.Ghost.{State, Event, Move, begins, performs, stops, makes, splits, acts}
use Rattle.machine.proofs.GhostMachine.Invariant.{Shape, Opened}
use Rattle.machine.proofs.GhostMachine.GhostLaws.{makes_at, splits_at}
use Rattle.machine.proofs.GhostMachine.ShapeActs.{shape_begins, shape_performs, shape_stops, shape_acts}
use Rattle.machine.proofs.GhostMachine.ShapeMakes.{shape_makes, shape_splits}

-- One lemma for each kind of move.
pub shape_kept : {v : ℕ} {S S' : State} {e : Event} → Shape S → Opened S → Move S v e S' → Shape S'
shape_kept sh op (begins h free) = shape_begins sh h
shape_kept sh op (performs {r = r} h) = shape_performs r sh h
shape_kept sh op (stops h) = shape_stops sh h
shape_kept {S = S} sh op (makes {c = c} {ms = ms} h d) = shape_makes sh h (makes_at S.setting c ms d)
shape_kept {S = S} sh op (splits {c = c} {ms = ms} h d) = shape_splits _ _ sh op h (splits_at S.setting c ms d)
shape_kept sh op (acts {d = d} h) = shape_acts d sh h
