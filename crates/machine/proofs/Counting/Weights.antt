-- What is left to do, weighed. A weight ω gives each event a number. What is left to a vertex weighs what its own steps will weigh,
-- together with all that vertices not made yet will do for it; a program's state weighs the sum over its vertices.
--
-- An item's commands are weighed in two parts: making a vertex together with all that this vertex will do (`kid_weight`), and joining the
-- vertices (`joins_weight`). So once some of its vertices are made, an item weighs what the others weigh, and what is behind them. A yield weighs
-- itself and the start that comes of it.
--
-- At the end stand the weights that are used: every event, new vertices, new edges, and the job at an offset.
use Prim.Native.Nat.{ℕ, zero, suc, ◌+◌}
use mathlib.Core.Bool.{cond}
use mathlib.Core.List.{List, [], ◌∷◌}
use lib.Dec.{eqb}
use lib.ListN.{length, drop}
use Rattle.program.specs.Trees.{Kind, asyncs, finishes, forks, futures, forces}
use Rattle.program.specs.declared.Edition.{Edition}
use Rattle.program.specs.declared.Edition.TheVariants.{First, Second}
use Rattle.program.specs.Encodings as table
use Rattle.program.specs.Encodings.{Command, perform, new_td, new_edge, transfer, release, row_of, weight}
use Rattle.program.specs.Located.{Code, end_byte_at, job_at, async_at, finish_at, fork_at, future_at, force_at}
use Rattle.machine.proofs.GhostMachine.Ghost.{Do, link, hand, free, yield, Control, draft, fresh, ready, busy, joining, over, Setting, State}
use Rattle.machine.proofs.GhostMachine.Ghost.{Kid, fork_goes, kids, Event, a_start, a_new, an_edge, a_release, a_transfer, a_job, a_stop}
use Rattle.machine.proofs.GhostMachine.Ghost.{a_yield}

-- what a command weighs that joins vertices
unfoldable pub join_weight : (Event → ℕ) → Command → ℕ
join_weight ω perform = 0
join_weight ω (new_td p a) = 0
join_weight ω (new_edge a b) = ω an_edge
join_weight ω (transfer a) = ω a_transfer
join_weight ω (release a) = ω a_release
join_weight ω table.yield = ω a_yield + ω a_start

-- those of an item of a kind together
unfoldable pub joins_weight : Edition → (Event → ℕ) → Kind → ℕ
joins_weight ed ω k = weight (join_weight ω) (row_of ed k).commands

-- a vertex still to be made, whose code weighs w
abbrev pub kid_weight : (Event → ℕ) → ℕ → ℕ
kid_weight ω w = ω a_new + ω a_start + w

-- a fork's rest, which weighs w: in the first edition a vertex still to be made has it, and the forking one goes to an end byte; in the second
-- the forking one goes on with it
unfoldable pub fork_rest : Edition → (Event → ℕ) → ℕ → ℕ
fork_rest First ω w = kid_weight ω w + ω a_stop
fork_rest Second ω w = w

-- What a vertex that executes at the start of this code has still to do. After a finish or a force it goes to an end byte. A future's
-- first vertex is at one when it is made.
unfoldable pub body_weight : Edition → (Event → ℕ) → Code → ℕ
body_weight ed ω (end_byte_at o) = ω a_stop
body_weight ed ω (job_at o n r) = ω (a_job o) + body_weight ed ω r
body_weight ed ω (async_at o b r) = kid_weight ω (body_weight ed ω b) + (joins_weight ed ω asyncs + body_weight ed ω r)
body_weight ed ω (finish_at o b r) =
    kid_weight ω (body_weight ed ω r) + (kid_weight ω (body_weight ed ω b) + (joins_weight ed ω finishes + ω a_stop))
body_weight ed ω (fork_at o b c r) =
    kid_weight ω (body_weight ed ω b)
    + (kid_weight ω (body_weight ed ω c) + (joins_weight ed ω forks + fork_rest ed ω (body_weight ed ω r)))
body_weight ed ω (future_at o b r) =
    kid_weight ω (ω a_stop) + (kid_weight ω (body_weight ed ω b) + (joins_weight ed ω futures + body_weight ed ω r))
body_weight ed ω (force_at o n b r) = kid_weight ω (body_weight ed ω r) + (joins_weight ed ω forces + ω a_stop)

-- vertices still to be made
unfoldable pub kids_weight : Edition → (Event → ℕ) → List Kid → ℕ
kids_weight ed ω [] = 0
kids_weight ed ω (k ∷ ks) = kid_weight ω (body_weight ed ω k.code) + kids_weight ed ω ks

-- what code weighs without the vertices that its first item makes
unfoldable pub behind_weight : Setting → (Event → ℕ) → Code → ℕ
behind_weight Γ ω (end_byte_at o) = ω a_stop
behind_weight Γ ω (job_at o n r) = ω (a_job o) + body_weight Γ.edition ω r
behind_weight Γ ω (async_at o b r) = joins_weight Γ.edition ω asyncs + body_weight Γ.edition ω r
behind_weight Γ ω (finish_at o b r) = joins_weight Γ.edition ω finishes + ω a_stop
behind_weight Γ ω (fork_at o b c r) =
    joins_weight Γ.edition ω forks + body_weight Γ.edition ω (fork_goes Γ.edition Γ.last_byte r)
behind_weight Γ ω (future_at o b r) = joins_weight Γ.edition ω futures + body_weight Γ.edition ω r
behind_weight Γ ω (force_at o n b r) = joins_weight Γ.edition ω forces + ω a_stop

-- joining commands with the vertices filled in; a yield is the last, and the vertex starts again
unfoldable pub tasks_weight : (Event → ℕ) → List Do → ℕ
tasks_weight ω [] = 0
tasks_weight ω (link a b ∷ ds) = ω an_edge + tasks_weight ω ds
tasks_weight ω (hand h ∷ ds) = ω a_transfer + tasks_weight ω ds
tasks_weight ω (free m ∷ ds) = ω a_release + tasks_weight ω ds
tasks_weight ω (yield ∷ ds) = ω a_yield + ω a_start

-- what is left to a vertex
unfoldable pub left : Setting → (Event → ℕ) → Control → ℕ
left Γ ω (draft c) = ω a_start + body_weight Γ.edition ω c
left Γ ω (fresh c) = ω a_start + body_weight Γ.edition ω c
left Γ ω (ready c) = ω a_start + body_weight Γ.edition ω c
left Γ ω (busy c ms) = kids_weight Γ.edition ω (drop (length ms) (kids Γ c)) + behind_weight Γ ω c
left Γ ω (joining c d ds) = tasks_weight ω (d ∷ ds) + body_weight Γ.edition ω c
left Γ ω over = 0

-- the sum of a function over the numbers below n
unfoldable pub total_below : (ℕ → ℕ) → ℕ → ℕ
total_below f zero = 0
total_below f (suc n) = f n + total_below f n

-- what is left to all vertices
unfoldable pub total : (Event → ℕ) → State → ℕ
total ω S = total_below (λ v. left S.setting ω (S.control v)) S.count

-- what has been done: the sum over the events
unfoldable pub spent : (Event → ℕ) → List Event → ℕ
spent ω [] = 0
spent ω (e ∷ es) = ω e + spent ω es

-- every event weighs 1
abbrev pub each : Event → ℕ
each e = 1

-- 1 for a new vertex
unfoldable pub news : Event → ℕ
news a_start = 0
news a_new = 1
news an_edge = 0
news a_release = 0
news a_transfer = 0
news (a_job o) = 0
news a_stop = 0
news a_yield = 0

-- 1 for a new edge
unfoldable pub links : Event → ℕ
links a_start = 0
links a_new = 0
links an_edge = 1
links a_release = 0
links a_transfer = 0
links (a_job o) = 0
links a_stop = 0
links a_yield = 0

-- 1 for the job at offset q
unfoldable pub job_count : ℕ → Event → ℕ
job_count q a_start = 0
job_count q a_new = 0
job_count q an_edge = 0
job_count q a_release = 0
job_count q a_transfer = 0
job_count q (a_job o) = cond (eqb o q) 1 0
job_count q a_stop = 0
job_count q a_yield = 0
