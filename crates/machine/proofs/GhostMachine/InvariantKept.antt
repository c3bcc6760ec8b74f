-- All that holds of a reached state, `Inv`: the five parts of the invariant, that scopes are asleep, that items not split have vertices to make,
-- that vertices that are over have no edge out, and the order of jobs. It holds after loading, and every move keeps it.
use Prim.Native.Nat.{ℕ}
use mathlib.Core.Path.{◌≡◌, sym, ◌∙◌, ap}
use mathlib.Core.List.{[]}
use Rattle.program.specs.Trees.{Body}
use Rattle.program.specs.Located.{Code, last, located}
use Rattle.program.proofs.LocatedLaws.{Laid, laid_located}
use Rattle.program.proofs.OpenLaws.{Opens}
use Rattle.machine.proofs.GhostMachine.Ghost.{Setting, State, Event, Move}
use Rattle.machine.proofs.GhostMachine.Invariant.{Shape, Ranks, Roads, Coded, Opened}
use Rattle.machine.proofs.GhostMachine.ShapeKept.{shape_kept}
use Rattle.machine.proofs.GhostMachine.RoadsKept.{roads_kept}
use Rattle.machine.proofs.GhostMachine.RanksKept.{ranks_kept}
use Rattle.machine.proofs.GhostMachine.CodedKept.{coded_kept}
use Rattle.machine.proofs.GhostMachine.OpenedKept.{opened_kept, opened_beginning}
use Rattle.machine.proofs.GhostMachine.ScopesAsleep.{ScopesAsleep, asleep_kept, asleep_beginning}
use Rattle.machine.proofs.GhostMachine.Ended.{Ended, ended_kept, ended_beginning}
use Rattle.machine.proofs.GhostMachine.Unsplit.{Unsplit, unsplit_kept, unsplit_beginning, setting_kept}
use Rattle.machine.proofs.GhostMachine.Beginning.{beginning}
use Rattle.machine.proofs.GhostMachine.BeginningShape.{shape_beginning}
use Rattle.machine.proofs.GhostMachine.BeginningRoads.{ranks_beginning, roads_beginning, coded_beginning}
use Rattle.machine.proofs.JobOrder.Order.{Orders}
use Rattle.machine.proofs.JobOrder.OrderKept.{orders_kept, orders_beginning}

-- what holds of every state that is reached, in a program p
pub record Inv (p : Code) (S : State) : Type 0 where
  -- the last byte is the program's
  pub ends : last p ≡ S.setting.last_byte
  pub shape : Shape S
  pub ranks : Ranks S
  pub roads : Roads S
  pub scopes : ScopesAsleep S
  pub coded : Coded p S
  pub opened : Opened S
  pub unsplit : Unsplit S
  pub ended : Ended S
  pub orders : Orders p S

-- After loading a program in which each force has its future.
pub inv_beginning :
    (t : Body) (Γ : Setting) → last (located t) ≡ Γ.last_byte → Opens [] (located t) → Inv (located t) (beginning (located t) Γ)
unfolding beginning
inv_beginning t Γ at opens =
    record {
      ends = at;
      shape = shape_beginning (located t) Γ;
      ranks = ranks_beginning (located t) Γ at;
      roads = roads_beginning (located t) Γ;
      scopes = asleep_beginning (located t) Γ;
      coded = coded_beginning (located t) Γ (laid_located t) at;
      opened = opened_beginning (located t) Γ opens;
      unsplit = unsplit_beginning (located t) Γ;
      ended = ended_beginning (located t) Γ;
      orders = orders_beginning (located t) Γ;
    }

pub inv_kept : {v : ℕ} {S S' : State} {e : Event} (p : Code) → Laid p → Inv p S → Move S v e S' → Inv p S'
inv_kept p laid inv m =
    record {
      ends = inv.ends ∙ sym (ap (λ Γ. Γ.last_byte) (setting_kept m));
      shape = shape_kept inv.shape inv.opened m;
      ranks = ranks_kept p laid inv.shape inv.opened inv.ranks inv.coded m;
      roads = roads_kept inv.shape inv.opened inv.roads m;
      scopes = asleep_kept inv.shape inv.roads inv.scopes m;
      coded = coded_kept p laid inv.ends inv.coded m;
      opened = opened_kept p laid inv.shape inv.coded inv.opened m;
      unsplit = unsplit_kept m inv.unsplit;
      ended = ended_kept inv.shape inv.ended m;
      orders = orders_kept laid inv.shape inv.opened inv.ranks inv.roads inv.coded inv.orders m;
    }
