-- "Which job comes ahead" by recursion on code, which proofs and the tool go by (its sets A and S of a body): `Pre` is `Ahead` (`ahead_is_pre` in
-- proofs/AheadIsPre.antt). `InS c p`: whoever waits for a vertex that holds c waits for the job at p. `InA c p`: a finish around c waits for it,
-- and so does whoever waits for a vertex whose scope is that of c. `Pre c p q`: inside c the job at p, at its own place or in the reading of a
-- force, comes ahead of the job at q.
use Rattle.std.specs.Prelude.{ℕ, ◌≡◌, ◌⊎◌}
use Rattle.program.specs.Located.{Code, end_byte_at, job_at, async_at, finish_at, fork_at, future_at, force_at}

-- the job at p is written in this code
unfoldable pub HasJob : Code → ℕ → Type 0
HasJob (end_byte_at o) p = ⊥
HasJob (job_at o n r) p = (p ≡ o) ⊎ HasJob r p
HasJob (async_at o b r) p = HasJob b p ⊎ HasJob r p
HasJob (finish_at o b r) p = HasJob b p ⊎ HasJob r p
HasJob (fork_at o b c r) p = HasJob b p ⊎ (HasJob c p ⊎ HasJob r p)
HasJob (future_at o b r) p = HasJob b p ⊎ HasJob r p
HasJob (force_at o n b r) p = HasJob r p

-- all but the bodies of futures, and at a force what a finish around its future's body waits for
unfoldable pub InA : Code → ℕ → Type 0
InA (end_byte_at o) p = ⊥
InA (job_at o n r) p = (p ≡ o) ⊎ InA r p
InA (async_at o b r) p = InA b p ⊎ InA r p
InA (finish_at o b r) p = InA b p ⊎ InA r p
InA (fork_at o b c r) p = InA b p ⊎ (InA c p ⊎ InA r p)
InA (future_at o b r) p = InA r p
InA (force_at o n b r) p = InA b p ⊎ InA r p

unfoldable pub InS : Code → ℕ → Type 0
InS (end_byte_at o) p = ⊥
InS (job_at o n r) p = (p ≡ o) ⊎ InS r p
InS (async_at o b r) p = InS r p
InS (finish_at o b r) p = InA b p ⊎ InS r p
InS (fork_at o b c r) p = InS b p ⊎ (InS c p ⊎ InS r p)
InS (future_at o b r) p = InS r p
InS (force_at o n b r) p = InA b p ⊎ InS r p

unfoldable pub Pre : Code → ℕ → ℕ → Type 0
Pre (end_byte_at o) p q = ⊥
Pre (job_at o n r) p q = ((p ≡ o) × HasJob r q) ⊎ Pre r p q
Pre (async_at o b r) p q = Pre b p q ⊎ Pre r p q
Pre (finish_at o b r) p q = (InA b p × HasJob r q) ⊎ (Pre b p q ⊎ Pre r p q)
Pre (fork_at o b c r) p q = ((InS b p ⊎ InS c p) × HasJob r q) ⊎ (Pre b p q ⊎ (Pre c p q ⊎ Pre r p q))
Pre (future_at o b r) p q = Pre b p q ⊎ Pre r p q
Pre (force_at o n b r) p q = (InA b p × HasJob r q) ⊎ Pre r p q
