-- The state after loading has the shape: its two vertices are ready, so nothing is under way and nothing is left to do.
use Prim.Native.Nat.{ℕ}
use mathlib.Core.Path.{◌≡◌, refl, sym, subst}
use mathlib.Core.Bool.{false}
use mathlib.Core.List.{List}
use native.Mathlib.Omega.{arith}
use Rattle.graph.proofs.TestLaws.{true-false}
use Rattle.program.specs.Located.{Code}
use Rattle.machine.proofs.GhostMachine.Ghost.{busy, over, Setting}
use Rattle.machine.proofs.GhostMachine.Invariant.{is_new, Fits, Shape}
use Rattle.machine.proofs.GhostMachine.GhostLaws.{clash, draft_new, fresh_new}
use Rattle.machine.proofs.GhostMachine.ShapeStep.{fits_none}
use Rattle.machine.proofs.GhostMachine.Beginning.{beginning, beginning_control, beginning_tasks, beginning_edge}

-- no vertex is new
beginning_old : (p : Code) (Γ : Setting) (u : ℕ) → is_new ((beginning p Γ).control u) ≡ false
unfolding is_new
beginning_old p Γ u = beginning_control p Γ (λ x. is_new x ≡ false) u (λ e. refl) (λ e. refl) (λ n n'. refl)

-- and none executes
beginning_idle : {A : Type 0} (p : Code) (Γ : Setting) (u : ℕ) {c : Code} {ms : List ℕ} → (beginning p Γ).control u ≡ busy c ms → A
beginning_idle {A} p Γ u {c} {ms} =
    beginning_control p Γ (λ x. x ≡ busy c ms → A) u (λ e h. clash cc) (λ e h. clash cc) (λ n n' h. clash cc)

-- The state after loading has the shape.
pub shape_beginning : (p : Code) (Γ : Setting) → Shape (beginning p Γ)
unfolding beginning
shape_beginning p Γ =
    record {
      beyond =
          λ u le. beginning_control p Γ (λ x. x ≡ over) u (λ e. absurd (omega arith)) (λ e. absurd (omega arith)) (λ n n'. refl);
      within = λ a b h. let (e, e') = beginning_edge p Γ a b h in (omega (arith, e), omega (arith, e'));
      scope_within = λ v lt. omega arith;
      under_way = λ v c ms h. beginning_idle p Γ v h;
      drafts = λ m k h. true-false (draft_new h) (beginning_old p Γ m);
      draft_bare = λ m x k h. true-false (draft_new h) (beginning_old p Γ m);
      freshes = λ m k h. true-false (fresh_new h) (beginning_old p Γ m);
      todo_fits = λ t. subst (λ ds. Fits (beginning p Γ) t ds) (sym (beginning_tasks p Γ t)) (fits_none (beginning p Γ) t);
      scope_old = λ v lt h. beginning_old p Γ 1;
    }
