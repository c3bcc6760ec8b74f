-- Who waits for which jobs, and the invariant of their order, which goes by recursion on code (specs/AheadByCode.antt).
use Prim.Native.Nat.{ℕ, ◌<◌}
use mathlib.Core.Path.{◌≡◌}
use mathlib.Core.Logic.{◌⊎◌}
use mathlib.Core.Option.{Option, none, some}
use Rattle.program.specs.Located.{Code}
use Rattle.machine.proofs.GhostMachine.Ghost.{Control, draft, fresh, ready, busy, joining, over, State}
use Rattle.machine.proofs.GhostMachine.Invariant.{In, Settled, Way}
unfoldable pub use Rattle.machine.specs.AheadByCode.{HasJob as Job, InA, InS, Pre}

-- the code that a vertex answers for; a draft's is still its maker's
unfoldable pub holds : Control → Option Code
holds (draft c) = none
holds (fresh c) = some c
holds (ready c) = some c
holds (busy c ms) = some c
holds (joining c d ds) = some c
holds over = none

-- the job at p is still to be answered, by v
pub data Held (S : State) (v p : ℕ) : Type 0 where
  held : (c : Code) → holds (S.control v) ≡ some c → Job c p → Held S v p

-- v waits for the job at p: for what a vertex u has that leads to v, or for all that u has whose scope is v or leads to v, but for futures
pub data Waits (S : State) (v p : ℕ) : Type 0 where
  for_way : (u : ℕ) (c : Code) → holds (S.control u) ≡ some c → Way (Settled S) u v → InS c p → Waits S v p
  for_scope : (u : ℕ) (c : Code) → holds (S.control u) ≡ some c → S.scope u ≡ v → InA c p → Waits S v p
  for_scopes_way : (u : ℕ) (c : Code) → holds (S.control u) ≡ some c → Way (Settled S) (S.scope u) v → InA c p → Waits S v p

-- No job is held by two. Of a job q held by v, and a job p that is still to be answered: p is ahead of q in the program exactly if v waits
-- for p or p is ahead of q in what v has. The first vertex of an open future waits for exactly what a finish around its body would.
pub record Orders (m : Code) (S : State) : Type 0 where
  pub alone : (u v p : ℕ) → Held S u p → Held S v p → u ≡ v
  pub only : (v q : ℕ) (c : Code) → holds (S.control v) ≡ some c → Job c q → (u p : ℕ) → Held S u p → Pre m p q → Waits S v p ⊎ Pre c p q
  pub each : (v q : ℕ) (c : Code) → holds (S.control v) ≡ some c → Job c q → (u p : ℕ) → Held S u p → Waits S v p ⊎ Pre c p q → Pre m p q
  pub awaits : (v t : ℕ) (b : Code) → v < S.count → In (t, b) (S.opens v) → (u p : ℕ) → Held S u p → InA b p → Waits S t p
  pub awaited : (v t : ℕ) (b : Code) → v < S.count → In (t, b) (S.opens v) → (u p : ℕ) → Held S u p → Waits S t p → InA b p
