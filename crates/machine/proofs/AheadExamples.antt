-- Two of the example programs and the orders of their jobs (docs/ENGINE.md, "Examples"), by evaluation of `Pre`: `04 01 01 00 01 02 00 01 03
-- 00`, "job 3 last", and `02 01 01 00 01 02 00`, "jobs in either order". Their jobs stand at the offsets 1, 4 and 7, and 1 and 4. The second
-- one with a future in place of the async, `05 01 01 00 01 02 00`, leaves its jobs unordered too, and with a force behind it, `05 01 01 00 06
-- 00 01 02 00`, puts job 1 ahead of job 2, which stands at offset 6 there.
use Prim.Native.Nat.{ℕ}
use mathlib.Core.Path.{◌≡◌, refl}
use mathlib.Core.Logic.{inl, inr, ⊎_elim}
use mathlib.Core.List.{[], ◌∷◌}
use native.Mathlib.Omega.{arith}
use Rattle.program.specs.Trees.{Body, end, job, async, fork, future, force}
use Rattle.program.specs.Bytes.{encode, encode_number, group_bytes, number_size, size}
use Rattle.program.specs.Located.{end_byte_at, job_at, open_at, locate, located}
use Rattle.machine.specs.Ahead.{Ahead}
use Rattle.machine.proofs.AheadIsPre.{ahead_is_pre}
use Rattle.machine.proofs.JobOrder.Order.{Job, InA, InS, Pre}

-- a fork of two jobs, and a job behind it
abbrev pub forked : Body
forked = fork (job 1 end) (job 2 end) (job 3 end)

-- its bytes
pub forked_bytes : encode forked ≡ 4 ∷ 1 ∷ 1 ∷ 0 ∷ 1 ∷ 2 ∷ 0 ∷ 1 ∷ 3 ∷ 0 ∷ []
unfolding encode encode_number group_bytes
forked_bytes = refl

-- the fork's left job is ahead of the last one
pub left_ahead : Ahead (located forked) 1 7
unfolding Job InS Pre located locate size number_size encode encode_number group_bytes
left_ahead = (ahead_is_pre _ 1 7).1 (inl (inl (inl refl), inl refl))

-- and so is its right one
pub right_ahead : Ahead (located forked) 4 7
unfolding Job InS Pre located locate size number_size encode encode_number group_bytes
right_ahead = (ahead_is_pre _ 4 7).1 (inl (inr (inl refl), inl refl))

-- one job by itself has none ahead
alone : (o n e p q : ℕ) → Pre (job_at o n (end_byte_at e)) p q → ⊥
unfolding Job Pre
alone o n e p q h = ⊎_elim (λ (_, none). none) (λ none. none) h

-- only the last has any ahead
fork_pre : (p q : ℕ) → Pre (located forked) p q → q ≡ 7
unfolding Job InS Pre located locate size number_size encode encode_number group_bytes
fork_pre p q (inl (i, inr h)) = elim h [ ]
fork_pre p q (inl (i, inl e)) = e
fork_pre p q (inr (inl h)) = absurd (alone 1 1 3 p q h)
fork_pre p q (inr (inr (inl h))) = absurd (alone 4 2 6 p q h)
fork_pre p q (inr (inr (inr h))) = absurd (alone 7 3 9 p q h)

-- so neither of the fork's jobs is ahead of the other
pub left_not_ahead : Ahead (located forked) 1 4 → ⊥
left_not_ahead a = absurd (omega (arith, fork_pre 1 4 ((ahead_is_pre _ 1 4).0 a)))

pub right_not_ahead : Ahead (located forked) 4 1 → ⊥
right_not_ahead a = absurd (omega (arith, fork_pre 4 1 ((ahead_is_pre _ 4 1).0 a)))

-- an async of a job, and a job behind it
abbrev pub spawned : Body
spawned = async (job 1 end) (job 2 end)

-- its bytes
pub spawned_bytes : encode spawned ≡ 2 ∷ 1 ∷ 1 ∷ 0 ∷ 1 ∷ 2 ∷ 0 ∷ []
unfolding encode encode_number group_bytes
spawned_bytes = refl

-- none has any ahead
async_pre : (p q : ℕ) → Pre (located spawned) p q → ⊥
unfolding Pre located locate size number_size encode encode_number group_bytes
async_pre p q h = ⊎_elim (alone 1 1 3 p q) (alone 4 2 6 p q) h

-- so neither is ahead of the other
pub body_not_ahead : Ahead (located spawned) 1 4 → ⊥
body_not_ahead a = async_pre 1 4 ((ahead_is_pre _ 1 4).0 a)

pub rest_not_ahead : Ahead (located spawned) 4 1 → ⊥
rest_not_ahead a = async_pre 4 1 ((ahead_is_pre _ 4 1).0 a)

-- a future of a job, and a job behind it
abbrev pub unawaited : Body
unawaited = future (job 1 end) (job 2 end)

-- its bytes
pub unawaited_bytes : encode unawaited ≡ 5 ∷ 1 ∷ 1 ∷ 0 ∷ 1 ∷ 2 ∷ 0 ∷ []
unfolding encode encode_number group_bytes
unawaited_bytes = refl

-- none has any ahead
future_pre : (p q : ℕ) → Pre (located unawaited) p q → ⊥
unfolding Pre located locate size number_size encode encode_number group_bytes
future_pre p q h = ⊎_elim (alone 1 1 3 p q) (alone 4 2 6 p q) h

-- so neither is ahead of the other
pub future_not_ahead : Ahead (located unawaited) 1 4 → ⊥
future_not_ahead a = future_pre 1 4 ((ahead_is_pre _ 1 4).0 a)

pub behind_not_ahead : Ahead (located unawaited) 4 1 → ⊥
behind_not_ahead a = future_pre 4 1 ((ahead_is_pre _ 4 1).0 a)

-- the same with a force before the second job
abbrev pub awaited : Body
awaited = future (job 1 end) (force 0 (job 2 end))

-- its bytes
pub awaited_bytes : encode awaited ≡ 5 ∷ 1 ∷ 1 ∷ 0 ∷ 6 ∷ 0 ∷ 1 ∷ 2 ∷ 0 ∷ []
unfolding encode encode_number group_bytes
awaited_bytes = refl

-- "A force is read as a finish around its future's body": the future's job is ahead of the one behind the force
pub future_ahead : Ahead (located awaited) 1 6
unfolding Job InA Pre located locate open_at size number_size encode encode_number group_bytes
future_ahead = (ahead_is_pre _ 1 6).1 (inr (inl (inl refl, inl refl)))
