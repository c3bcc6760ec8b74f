-- Ranks, roads and codes of the state after loading: the one edge leads from vertex 0, which has the whole program, to vertex 1, which
-- ranks behind it.
use Prim.Native.Nat.{ℕ, suc}
use mathlib.Core.Path.{◌≡◌, refl, sym, ◌∙◌, ap, subst}
use mathlib.Core.Bool.{false}
use mathlib.Core.Logic.{⊎_elim}
use mathlib.Core.Option.{some}
use native.Mathlib.Omega.{arith}
use Rattle.graph.proofs.TestLaws.{equal?, true-false}
use Rattle.program.specs.Located.{Code, start_of, last, code_at}
use Rattle.program.proofs.LocatedLaws.{Laid, code_here, code_end}
use Rattle.machine.proofs.GhostMachine.Ghost.{Setting}
use Rattle.machine.proofs.GhostMachine.Invariant.{is_item, waits, Settled, held, given, planned, one, HasItem, Ranks, Roads, Coded}
use Rattle.machine.proofs.GhostMachine.GhostLaws.{put_other, in_empty}
use Rattle.machine.proofs.GhostMachine.RoadLaws.{linked_new}
use Rattle.machine.proofs.GhostMachine.Beginning.{beginning, beginning_tasks, beginning_edge, beginning_code}

-- the one edge is the one settled edge
pub beginning_settled : (p : Code) (Γ : Setting) {a b : ℕ} → Settled (beginning p Γ) a b → (a ≡ 0) × (b ≡ 1)
beginning_settled p Γ {a} {b} (held e n) = beginning_edge p Γ a b e
beginning_settled p Γ (given t i e) = in_empty (beginning_tasks p Γ t) i
beginning_settled p Γ (planned t i l) = in_empty (beginning_tasks p Γ t) i

beginning_held : (p : Code) (Γ : Setting) → Settled (beginning p Γ) 0 1
unfolding beginning
beginning_held p Γ = held (linked_new (λ a b. false) 0 1) (λ h i. in_empty (beginning_tasks p Γ 0) i)

-- code with an item is the program's
beginning_item : {P : Type 0} (p : Code) (Γ : Setting) (u : ℕ) {c : Code} → HasItem (beginning p Γ) u c → (u ≡ 0 → p ≡ c → P) → P
unfolding is_item
beginning_item p Γ u h f = beginning_code p Γ u h.0 f (λ e q. true-false h.1 (ap is_item (sym q)))

-- ranks rise from 0 to 1
pub ranks_beginning : (p : Code) (Γ : Setting) → last p ≡ Γ.last_byte → Ranks (beginning p Γ)
unfolding beginning
ranks_beginning p Γ l =
    record {
      rank_le =
          λ u h.
          ⊎_elim
          (λ e. rw e (omega arith))
          (λ n. rw (put_other (λ u. suc Γ.last_byte) 0 0 u n, put_other (λ u. suc Γ.last_byte) 0 Γ.last_byte u n) (omega arith))
          (equal? u 0);
      edge_rank = λ a b e. let (p, q) = beginning_edge p Γ a b e in rw (p, q) (omega arith);
      link_rank = λ t a b i. in_empty (beginning_tasks p Γ t) i;
      hand_rank = λ t h i. in_empty (beginning_tasks p Γ t) i;
      scope_rank = λ u c h. beginning_item p Γ u h (λ e q. rw e (omega arith));
      code_fin = λ u c h. beginning_item p Γ u h (λ e q. rw e (ap last (sym q) ∙ l));
      rank_start = λ u c h. beginning_item p Γ u h (λ e q. rw e (omega arith));
    }

-- vertex 1 waits, and vertex 0 leads to it
pub roads_beginning : (p : Code) (Γ : Setting) → Roads (beginning p Γ)
unfolding beginning waits
roads_beginning p Γ =
    record {
      into = λ a b s. let (e, q) = beginning_settled p Γ s in rw q refl;
      way = λ u c h d. beginning_item p Γ u h (λ e q. rw e (one (beginning_held p Γ)));
      plan = λ t a i. in_empty (beginning_tasks p Γ t) i;
      bare = λ t a b x i f s. in_empty (beginning_tasks p Γ t) i;
    }

-- the program starts at its place, and ends with its last byte
pub coded_beginning : (p : Code) (Γ : Setting) → Laid p → last p ≡ Γ.last_byte → Coded p (beginning p Γ)
unfolding beginning start_of
coded_beginning p Γ l e u c h =
    beginning_code p Γ u h
    (λ q i. subst (λ (c : Code). code_at p (start_of c) ≡ some c) i (code_here p))
    (λ q i. subst (λ (c : Code). code_at p (start_of c) ≡ some c) i (rw (← e) (code_end p l)))
