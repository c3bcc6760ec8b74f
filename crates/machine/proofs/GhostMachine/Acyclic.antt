-- Ranks rise along every edge that is held, so no path closes. This is what makes the commands accepted: an edge is added from lower to
-- higher ranks, and so are edges handed on. It is said of any test E that agrees with the edges, the tables' own among them.
use Prim.Native.Nat.{ℕ, ◌<◌, ◌≤◌}
use mathlib.Core.Path.{◌≡◌, sym, ◌∙◌}
use mathlib.Core.Bool.{Bool, true}
use native.Mathlib.Omega.{arith}
use Rattle.graph.specs.Paths.{Leads, one, more, CycleFree}
use Rattle.machine.proofs.GhostMachine.Ghost.{State}
use Rattle.machine.proofs.GhostMachine.Invariant.{Shape, Ranks}

-- a path rises, from where its first vertex ends to where its last one starts
pub path_rises :
    {S : State} {E : ℕ → ℕ → Bool} → Shape S → Ranks S → ((a b : ℕ) → E a b ≡ S.edge a b) → {a b : ℕ} → Leads E a b
    → (S.fin a < S.rank b) × (S.rank b ≤ S.fin b)
path_rises {S} sh rk same (one {a = a} {b = b} e) =
    let held : S.edge a b ≡ true = sym (same a b) ∙ e in
    (rk.edge_rank a b held, rk.rank_le b (sh.within a b held).1)
path_rises {S} sh rk same (more {a = a} {b = b} e p) =
    let held : S.edge a b ≡ true = sym (same a b) ∙ e in
    let (lt, le) = path_rises sh rk same p in
    (omega (arith, rk.edge_rank a b held, rk.rank_le b (sh.within a b held).1, lt), le)

-- so none closes
pub cycle_free : {S : State} {E : ℕ → ℕ → Bool} → Shape S → Ranks S → ((a b : ℕ) → E a b ≡ S.edge a b) → CycleFree E
cycle_free sh rk same x p = let (lt, le) = path_rises sh rk same p in absurd (omega (arith, lt, le))
