-- "Which job comes ahead". Jobs are told apart by offset.
use Rattle.std.specs.Prelude.{ℕ, ◌≡◌, List, [], ◌∷◌, ◌++◌}
use Rattle.program.specs.Trees.{Kind, asyncs, finishes, forks, futures}
use Rattle.program.specs.Located.{Code, job_at, async_at, finish_at, fork_at, future_at, force_at}

-- r is what a body has behind its first item
pub data Behind : Code → Code → Type 0 where
  job_behind : {o n : ℕ} {r : Code} → Behind (job_at o n r) r
  async_behind : {o : ℕ} {b r : Code} → Behind (async_at o b r) r
  finish_behind : {o : ℕ} {b r : Code} → Behind (finish_at o b r) r
  fork_behind : {o : ℕ} {b c r : Code} → Behind (fork_at o b c r) r
  future_behind : {o : ℕ} {b r : Code} → Behind (future_at o b r) r
  force_behind : {o n : ℕ} {b r : Code} → Behind (force_at o n b r) r

-- b is a body that a body's first item, of this kind, holds
pub data HoldsBody : Code → Kind → Code → Type 0 where
  async_holds : {o : ℕ} {b r : Code} → HoldsBody (async_at o b r) asyncs b
  finish_holds : {o : ℕ} {b r : Code} → HoldsBody (finish_at o b r) finishes b
  fork_holds_left : {o : ℕ} {b c r : Code} → HoldsBody (fork_at o b c r) forks b
  fork_holds_right : {o : ℕ} {b c r : Code} → HoldsBody (fork_at o b c r) forks c
  future_holds : {o : ℕ} {b r : Code} → HoldsBody (future_at o b r) futures b

-- c is a body from one of its items, or its end, on
pub data From : Code → Code → Type 0 where
  start : {b : Code} → From b b
  on : {b r c : Code} → Behind b r → From r c → From b c

-- The way from a body's first item down to the job at p: the kinds of the items on it, the first item itself counted.
pub data Way : Code → ℕ → List Kind → Type 0 where
  job_itself : {o n : ℕ} {r : Code} → Way (job_at o n r) o []
  down : {c b b' : Code} {k : Kind} {p : ℕ} {ks : List Kind} → HoldsBody c k b → From b b' → Way b' p ks → Way c p (k ∷ ks)

-- "A force is read as a finish around its future's body, forces inside it likewise" (note 5): b is a body that a body's first item holds, or
-- is read as holding. The code of a force has its future's body b with it (`locate` of `program`).
pub data ReadsBody : Code → Kind → Code → Type 0 where
  own : {c b : Code} {k : Kind} → HoldsBody c k b → ReadsBody c k b
  force_reads : {o n : ℕ} {b r : Code} → ReadsBody (force_at o n b r) finishes b

-- The way from a body's first item down to the job at p, at its own place or in such a reading.
pub data ReadWay : Code → ℕ → List Kind → Type 0 where
  job_itself : {o n : ℕ} {r : Code} → ReadWay (job_at o n r) o []
  down : {c b b' : Code} {k : Kind} {p : ℕ} {ks : List Kind} → ReadsBody c k b → From b b' → ReadWay b' p ks → ReadWay c p (k ∷ ks)

-- anywhere in a program: itself, behind a first item, or in a body that it holds
pub data Within : Code → Code → Type 0 where
  whole : {m : Code} → Within m m
  behind : {m r c : Code} → Behind m r → Within r c → Within m c
  inside : {m b c : Code} {k : Kind} → HoldsBody m k b → Within b c → Within m c

-- a finish is among these
pub data AFinish : List Kind → Type 0 where
  this : {ks : List Kind} → AFinish (finishes ∷ ks)
  further : {k : Kind} {ks : List Kind} → AFinish ks → AFinish (k ∷ ks)

-- "each async on the way .. has a finish above it on that way"; "a future on the way counts as an async that no finish closes" (note 5)
pub record Closed (ks : List Kind) : Type 0 where
  pub asyncs_closed : (above below : List Kind) → ks ≡ above ++ (asyncs ∷ below) → AFinish above
  pub no_future : (above below : List Kind) → ks ≡ above ++ (futures ∷ below) → ⊥

-- "Take the innermost body with both jobs in different items, p in the earlier": c is such a body from p's item on, ks are the kinds on the
-- way from this item down to p, and q is in an item behind it. "q at its own place and p at its own or in such a reading": W is the way to p,
-- `Way` or `ReadWay`. There is no need to ask for the innermost: proofs/AheadUnique.antt has it of jobs at their own places that no other body
-- is such a one (`apart_once`), and that a body around it has both jobs in one item (`around_one`); and of a job in a reading, the same of the
-- outermost force that reads it (`apart_read`, `force_once`, `force_around`).
pub data Apart (W : Code → ℕ → List Kind → Type 0) (m : Code) (p q : ℕ) (c : Code) (ks : List Kind) : Type 0 where
  apart : (r c' : Code) (ks' : List Kind) → Within m c → W c p ks → Behind c r → From r c' → Way c' q ks' → Apart W m p q c ks

-- "two branches of a fork": p is in the left body of a fork, q in its right one
pub data Branches (m : Code) (p q : ℕ) : Type 0 where
  branches :
      (o : ℕ) (b c r b' c' : Code) (ks ks' : List Kind) → Within m (fork_at o b c r) → From b b' → Way b' p ks → From c c' → Way c' q ks'
      → Branches m p q

-- how two jobs of a program stand to each other
pub data Stand (m : Code) (p q : ℕ) : Type 0 where
  one_job : p ≡ q → Stand m p q
  earlier : (c : Code) (ks : List Kind) → Apart Way m p q c ks → Stand m p q
  later : (c : Code) (ks : List Kind) → Apart Way m q p c ks → Stand m p q
  left_right : Branches m p q → Stand m p q
  right_left : Branches m q p → Stand m p q

-- "p is ahead of q if each async on the way from that earlier item (itself counted) down to p has a finish above it on that way. No other
-- pairs are ordered; two branches of a fork aren't." Two jobs that are in no such body are in two branches of a fork (`jobs_stand`), and these
-- are not ordered (`branches_unordered`). "Then p is ahead of q if the old rule says so with q at its own place and p at its own or in such a
-- reading." (note 5) Readings order no jobs of two branches: in a program each force has the body of a future that is open there (`Opens` of
-- `program`), and so what is ahead in a reading is in an earlier item at its own place too (`ahead_apart`).
pub data Ahead (m : Code) (p q : ℕ) : Type 0 where
  -- and no other way: two branches of a fork aren't ordered
  ahead : (c : Code) (ks : List Kind) → Apart ReadWay m p q c ks → Closed ks → Ahead m p q
