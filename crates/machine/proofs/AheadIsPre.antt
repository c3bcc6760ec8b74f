-- The order of jobs as it is defined, `Ahead` in ways of kinds, is the order by recursion on code, `Pre`:
--
--     job_is_way      Job c p exactly if some item of the body c has a way down to p, at its own place
--     ina_is_way      InA c p exactly if some item of it has a way down to p, there or in the reading of a force, with no future on it
--     ins_is_way      InS c p exactly if some item of it has such a way that is closed
--     ahead_is_pre    Ahead m p q exactly if Pre m p q: ahead_pre from left to right, pre_ahead from right to left
--
-- Each is an induction on the one side's derivation. A way is closed by its first kind: a finish closes it where no future is below, an
-- async and a future never do, and a fork leaves it to what is below.
use Prim.Native.Nat.{ℕ}
use mathlib.Core.Path.{◌≡◌, refl, sym, ap, subst}
use mathlib.Core.Logic.{inl, inr, ◌↔◌}
use mathlib.Core.List.{List, [], ◌∷◌, ◌++◌}
use native.Mathlib.Omega.{arith}
use Rattle.program.specs.Trees.{Kind, jobs, asyncs, finishes, forks, futures, forces}
use Rattle.program.specs.Located.{Code, job_at, async_at, finish_at, fork_at, future_at, force_at, end_byte_at}
use Rattle.machine.specs.Ahead.{Behind, job_behind, async_behind, finish_behind, fork_behind, future_behind, force_behind, HoldsBody}
use Rattle.machine.specs.Ahead.{async_holds, finish_holds, fork_holds_left, fork_holds_right, future_holds, From, start, on, Way}
use Rattle.machine.specs.Ahead.{ReadsBody, own, force_reads, ReadWay, Within, whole, behind, inside, AFinish, this, further, Closed}
use Rattle.machine.specs.Ahead.{Apart, apart, Ahead, ahead}
use Rattle.machine.proofs.JobOrder.Order.{Job, InA, InS, Pre}

-- no future is among these
abbrev pub NoFuture : List Kind → Type 0
NoFuture ks = (above below : List Kind) → ks ≡ above ++ (futures ∷ below) → ⊥

-- nothing is on the way to a job itself
nil_none : {P : Type 0} (k : Kind) (above below : List Kind) → [] ≡ above ++ (k ∷ below) → P
nil_none k [] below e = let z : ◌≡◌ {A = ℕ} 0 1 = cc in absurd (omega arith)
nil_none k (k' ∷ above) below e = let z : ◌≡◌ {A = ℕ} 0 1 = cc in absurd (omega arith)

-- another kind than a future
unfoldable Other : Kind → Type 0
Other jobs = Unit {0}
Other asyncs = Unit {0}
Other finishes = Unit {0}
Other forks = Unit {0}
Other futures = ⊥
Other forces = Unit {0}

-- none is on a way that begins with another kind, if none is below
none_on : {ks : List Kind} (k : Kind) → Other k → NoFuture ks → NoFuture (k ∷ ks)
unfolding Other
none_on k other h [] below e = let q : k ≡ futures = cc in subst Other q other
none_on {ks} k other h (k' ∷ above) below e = let q : ks ≡ above ++ (futures ∷ below) = cc in h above below q

-- and so none was below
none_below : {k : Kind} {ks : List Kind} → NoFuture (k ∷ ks) → NoFuture ks
none_below {k} h above below e = h (k ∷ above) below (ap (λ (x : List Kind). k ∷ x) e)

-- the way to a job itself is closed
closed_nil : Closed []
closed_nil = record { asyncs_closed = λ above. nil_none _ above; no_future = λ above. nil_none _ above }

-- a way on from an async is not closed
closed_async : {ks : List Kind} → Closed (asyncs ∷ ks) → ⊥
closed_async {ks} h = go (h.asyncs_closed [] ks refl)
  where
    go : AFinish [] → ⊥
    go = elim [ ]

-- nor is one on from a future
closed_future : {ks : List Kind} → Closed (futures ∷ ks) → ⊥
closed_future {ks} h = h.no_future [] ks refl

-- a finish closes the way below it, if no future is there
closed_finish : {ks : List Kind} → NoFuture ks → Closed (finishes ∷ ks)
unfolding Other
closed_finish {ks} h = record { asyncs_closed = closes; no_future = none_on finishes tt h }
  where
    closes : (above below : List Kind) → finishes ∷ ks ≡ above ++ (asyncs ∷ below) → AFinish above
    closes [] below e = let z : ◌≡◌ {A = ℕ} 0 1 = cc in absurd (omega arith)
    closes (k ∷ above) below e = let q : finishes ≡ k = cc in subst (λ (x : Kind). AFinish (x ∷ above)) q this

-- a fork leaves it as it is
closed_fork : {ks : List Kind} → Closed ks → Closed (forks ∷ ks)
unfolding Other
closed_fork {ks} h = record { asyncs_closed = closes; no_future = none_on forks tt h.no_future }
  where
    closes : (above below : List Kind) → forks ∷ ks ≡ above ++ (asyncs ∷ below) → AFinish above
    closes [] below e = let z : ◌≡◌ {A = ℕ} 0 1 = cc in absurd (omega arith)
    closes (k ∷ above) below e = let q : ks ≡ above ++ (asyncs ∷ below) = cc in further (h.asyncs_closed above below q)

-- and so it was closed below
fork_closed : {ks : List Kind} → Closed (forks ∷ ks) → Closed ks
fork_closed {ks} h = record { asyncs_closed = closes; no_future = none_below h.no_future }
  where
    go : {ks : List Kind} → AFinish (forks ∷ ks) → AFinish ks
    go (further f) = f

    closes : (above below : List Kind) → ks ≡ above ++ (asyncs ∷ below) → AFinish above
    closes above below e = go (h.asyncs_closed (forks ∷ above) below (ap (λ (x : List Kind). forks ∷ x) e))

-- a way to a job's own place is a way
pub own_way : {c : Code} {p : ℕ} {ks : List Kind} → Way c p ks → ReadWay c p ks
own_way Way.job_itself = ReadWay.job_itself
own_way (Way.down h f w) = ReadWay.down (own h) f (own_way w)

-- some item of the body c has a way down to the job at p, at its own place
abbrev pub Ways : Code → ℕ → Type 0
Ways c p = (c' : Code) × (ks : List Kind) × From c c' × Way c' p ks

-- there or in a reading, with no future on it
abbrev pub FreeWays : Code → ℕ → Type 0
FreeWays c p = (c' : Code) × (ks : List Kind) × From c c' × ReadWay c' p ks × NoFuture ks

-- and a closed one
abbrev pub ClosedWays : Code → ℕ → Type 0
ClosedWays c p = (c' : Code) × (ks : List Kind) × From c c' × ReadWay c' p ks × Closed ks

-- an item behind the first
ways_behind : {c r : Code} {p : ℕ} → Behind c r → Ways r p → Ways c p
ways_behind e (c', ks, f, w) = (c', ks, on e f, w)

free_behind : {c r : Code} {p : ℕ} → Behind c r → FreeWays r p → FreeWays c p
free_behind e (c', ks, f, w, k) = (c', ks, on e f, w, k)

closed_behind : {c r : Code} {p : ℕ} → Behind c r → ClosedWays r p → ClosedWays c p
closed_behind e (c', ks, f, w, k) = (c', ks, on e f, w, k)

-- the first item, through a body that it holds
ways_down : {c b : Code} {k : Kind} {p : ℕ} → HoldsBody c k b → Ways b p → Ways c p
ways_down {c} {k = k} h (c', ks, f, w) = (c, k ∷ ks, start, Way.down h f w)

-- or is read as holding, if it is no future
free_down : {c b : Code} {k : Kind} {p : ℕ} → ReadsBody c k b → Other k → FreeWays b p → FreeWays c p
free_down {c} {k = k} h other (c', ks, f, w, none) = (c, k ∷ ks, start, ReadWay.down h f w, none_on k other none)

-- this is closed through a finish
finish_down : {c b : Code} {p : ℕ} → ReadsBody c finishes b → FreeWays b p → ClosedWays c p
finish_down {c} h (c', ks, f, w, none) = (c, finishes ∷ ks, start, ReadWay.down h f w, closed_finish none)

-- and through a fork, where it is closed below
fork_down : {c b : Code} {p : ℕ} → HoldsBody c forks b → ClosedWays b p → ClosedWays c p
fork_down {c} h (c', ks, f, w, k) = (c, forks ∷ ks, start, ReadWay.down (own h) f w, closed_fork k)

-- the way to a job that is the first item
way_itself : (o n : ℕ) {p : ℕ} (r : Code) → p ≡ o → Way (job_at o n r) p []
way_itself o n r e = subst (λ (x : ℕ). Way (job_at o n r) x []) (sym e) Way.job_itself

-- a job that is there has a way
pub job_way : (c : Code) (p : ℕ) → Job c p → Ways c p
unfolding Job
job_way (end_byte_at _) p j = elim j [ ]
job_way (job_at o n r) p (inl e) = (_, [], start, way_itself o n r e)
job_way (job_at o n r) p (inr j) = ways_behind job_behind (job_way r p j)
job_way (async_at o b r) p (inl j) = ways_down async_holds (job_way b p j)
job_way (async_at o b r) p (inr j) = ways_behind async_behind (job_way r p j)
job_way (finish_at o b r) p (inl j) = ways_down finish_holds (job_way b p j)
job_way (finish_at o b r) p (inr j) = ways_behind finish_behind (job_way r p j)
job_way (fork_at o b c r) p (inl j) = ways_down fork_holds_left (job_way b p j)
job_way (fork_at o b c r) p (inr (inl j)) = ways_down fork_holds_right (job_way c p j)
job_way (fork_at o b c r) p (inr (inr j)) = ways_behind fork_behind (job_way r p j)
job_way (future_at o b r) p (inl j) = ways_down future_holds (job_way b p j)
job_way (future_at o b r) p (inr j) = ways_behind future_behind (job_way r p j)
job_way (force_at o n b r) p j = ways_behind force_behind (job_way r p j)

-- one that a finish around the code waits for has one with no future on it
ina_way : (c : Code) (p : ℕ) → InA c p → FreeWays c p
unfolding InA Other
ina_way (end_byte_at _) p i = elim i [ ]
ina_way (job_at o n r) p (inl e) = (_, [], start, own_way (way_itself o n r e), nil_none futures)
ina_way (job_at o n r) p (inr i) = free_behind job_behind (ina_way r p i)
ina_way (async_at o b r) p (inl i) = free_down (own async_holds) tt (ina_way b p i)
ina_way (async_at o b r) p (inr i) = free_behind async_behind (ina_way r p i)
ina_way (finish_at o b r) p (inl i) = free_down (own finish_holds) tt (ina_way b p i)
ina_way (finish_at o b r) p (inr i) = free_behind finish_behind (ina_way r p i)
ina_way (fork_at o b c r) p (inl i) = free_down (own fork_holds_left) tt (ina_way b p i)
ina_way (fork_at o b c r) p (inr (inl i)) = free_down (own fork_holds_right) tt (ina_way c p i)
ina_way (fork_at o b c r) p (inr (inr i)) = free_behind fork_behind (ina_way r p i)
ina_way (future_at o b r) p i = free_behind future_behind (ina_way r p i)
ina_way (force_at o n b r) p (inl i) = free_down force_reads tt (ina_way b p i)
ina_way (force_at o n b r) p (inr i) = free_behind force_behind (ina_way r p i)

-- and a closed one, where it is waited for
ins_way : (c : Code) (p : ℕ) → InS c p → ClosedWays c p
unfolding InS
ins_way (end_byte_at _) p j = elim j [ ]
ins_way (job_at o n r) p (inl e) = (_, [], start, own_way (way_itself o n r e), closed_nil)
ins_way (job_at o n r) p (inr j) = closed_behind job_behind (ins_way r p j)
ins_way (async_at o b r) p j = closed_behind async_behind (ins_way r p j)
ins_way (finish_at o b r) p (inl j) = finish_down (own finish_holds) (ina_way b p j)
ins_way (finish_at o b r) p (inr j) = closed_behind finish_behind (ins_way r p j)
ins_way (fork_at o b c r) p (inl j) = fork_down fork_holds_left (ins_way b p j)
ins_way (fork_at o b c r) p (inr (inl j)) = fork_down fork_holds_right (ins_way c p j)
ins_way (fork_at o b c r) p (inr (inr j)) = closed_behind fork_behind (ins_way r p j)
ins_way (future_at o b r) p j = closed_behind future_behind (ins_way r p j)
ins_way (force_at o n b r) p (inl j) = finish_down force_reads (ina_way b p j)
ins_way (force_at o n b r) p (inr j) = closed_behind force_behind (ins_way r p j)

-- a job behind the first item is in the body
pub behind_job : {c r : Code} (p : ℕ) → Behind c r → Job r p → Job c p
unfolding Job
behind_job p job_behind j = inr j
behind_job p async_behind j = inr j
behind_job p finish_behind j = inr j
behind_job p fork_behind j = inr (inr j)
behind_job p future_behind j = inr j
behind_job p force_behind j = j

-- and so is one in a body that this item holds
pub held_job : {c b : Code} {k : Kind} (p : ℕ) → HoldsBody c k b → Job b p → Job c p
unfolding Job
held_job p async_holds j = inl j
held_job p finish_holds j = inl j
held_job p fork_holds_left j = inl j
held_job p fork_holds_right j = inr (inl j)
held_job p future_holds j = inl j

-- what is waited for behind the first item
behind_ina : {c r : Code} (p : ℕ) → Behind c r → InA r p → InA c p
unfolding InA
behind_ina p job_behind j = inr j
behind_ina p async_behind j = inr j
behind_ina p finish_behind j = inr j
behind_ina p fork_behind j = inr (inr j)
behind_ina p future_behind j = j
behind_ina p force_behind j = inr j

behind_ins : {c r : Code} (p : ℕ) → Behind c r → InS r p → InS c p
unfolding InS
behind_ins p job_behind j = inr j
behind_ins p async_behind j = j
behind_ins p finish_behind j = inr j
behind_ins p fork_behind j = inr (inr j)
behind_ins p future_behind j = j
behind_ins p force_behind j = inr j

-- a job from any item on is in the body
pub from_job : {c c' : Code} (p : ℕ) → From c c' → Job c' p → Job c p
from_job p start j = j
from_job p (on e f) j = behind_job p e (from_job p f j)

-- and what is waited for from any item on
from_ina : {c c' : Code} (p : ℕ) → From c c' → InA c' p → InA c p
from_ina p start j = j
from_ina p (on e f) j = behind_ina p e (from_ina p f j)

from_ins : {c c' : Code} (p : ℕ) → From c c' → InS c' p → InS c p
from_ins p start j = j
from_ins p (on e f) j = behind_ins p e (from_ins p f j)

-- where a way leads, there is a job
pub way_job : {c : Code} {p : ℕ} {ks : List Kind} → Way c p ks → Job c p
unfolding Job
way_job Way.job_itself = inl refl
way_job (Way.down h f w) = held_job _ h (from_job _ f (way_job w))

-- where one with no future on it leads, a finish waits for it
way_ina : {c : Code} {p : ℕ} {ks : List Kind} → ReadWay c p ks → NoFuture ks → InA c p
unfolding InA
way_ina ReadWay.job_itself k = inl refl
way_ina (ReadWay.down (own async_holds) f w) k = inl (from_ina _ f (way_ina w (none_below k)))
way_ina (ReadWay.down (own finish_holds) f w) k = inl (from_ina _ f (way_ina w (none_below k)))
way_ina (ReadWay.down (own fork_holds_left) f w) k = inl (from_ina _ f (way_ina w (none_below k)))
way_ina (ReadWay.down (own fork_holds_right) f w) k = inr (inl (from_ina _ f (way_ina w (none_below k))))
way_ina (ReadWay.down (own future_holds) f w) k = absurd (k [] _ refl)
way_ina (ReadWay.down force_reads f w) k = inl (from_ina _ f (way_ina w (none_below k)))

-- and where a closed one leads, it is waited for
way_ins : {c : Code} {p : ℕ} {ks : List Kind} → ReadWay c p ks → Closed ks → InS c p
unfolding InS
way_ins ReadWay.job_itself k = inl refl
way_ins (ReadWay.down (own async_holds) f w) k = absurd (closed_async k)
way_ins (ReadWay.down (own finish_holds) f w) k = inl (from_ina _ f (way_ina w (none_below k.no_future)))
way_ins (ReadWay.down (own fork_holds_left) f w) k = inl (from_ins _ f (way_ins w (fork_closed k)))
way_ins (ReadWay.down (own fork_holds_right) f w) k = inr (inl (from_ins _ f (way_ins w (fork_closed k))))
way_ins (ReadWay.down (own future_holds) f w) k = absurd (closed_future k)
way_ins (ReadWay.down force_reads f w) k = inl (from_ina _ f (way_ina w (none_below k.no_future)))

-- the jobs of code are those that a way leads to
pub job_is_way : (c : Code) (p : ℕ) → Job c p ↔ Ways c p
job_is_way c p = (job_way c p, λ (c', ks, f, w). from_job p f (way_job w))

-- those that a finish around it waits for, those that a way with no future leads to
pub ina_is_way : (c : Code) (p : ℕ) → InA c p ↔ FreeWays c p
ina_is_way c p = (ina_way c p, λ (c', ks, f, w, k). from_ina p f (way_ina w k))

-- and those that are waited for, those that a closed way leads to
pub ins_is_way : (c : Code) (p : ℕ) → InS c p ↔ ClosedWays c p
ins_is_way c p = (ins_way c p, λ (c', ks, f, w, k). from_ins p f (way_ins w k))

-- p is ahead by a closed way, the one thing that the order is defined by
abbrev ByWay : Code → ℕ → ℕ → Type 0
ByWay m p q = (c : Code) × (ks : List Kind) × Apart ReadWay m p q c ks × Closed ks

-- behind the first item
by_behind : {m r : Code} {p q : ℕ} → Behind m r → ByWay r p q → ByWay m p q
by_behind e (c, ks, apart r c' ks' i w e' f w', k) = (c, ks, apart r c' ks' (behind e i) w e' f w', k)

-- or in a body that it holds
by_inside : {m b : Code} {k : Kind} {p q : ℕ} → HoldsBody m k b → ByWay b p q → ByWay m p q
by_inside h (c, ks, apart r c' ks' i w e' f w', k) = (c, ks, apart r c' ks' (inside h i) w e' f w', k)

-- the first item has a closed way to p, and q is behind it
by_first : {m r : Code} {p q : ℕ} (ks : List Kind) → ReadWay m p ks → Closed ks → Behind m r → Ways r q → ByWay m p q
by_first {m} {r} ks w k e (c', ks', f, w') = (m, ks, apart r c' ks' whole w e f w', k)

-- through a finish, or a force
by_finish : {m b r : Code} {p q : ℕ} → ReadsBody m finishes b → FreeWays b p → Behind m r → Ways r q → ByWay m p q
by_finish h (c', ks, f, w, none) e j = by_first (finishes ∷ ks) (ReadWay.down h f w) (closed_finish none) e j

-- or through a fork
by_fork : {m b r : Code} {p q : ℕ} → HoldsBody m forks b → ClosedWays b p → Behind m r → Ways r q → ByWay m p q
by_fork h (c', ks, f, w, k) e j = by_first (forks ∷ ks) (ReadWay.down (own h) f w) (closed_fork k) e j

-- what is ahead by recursion is ahead by a closed way
pre_by_way : (m : Code) (p q : ℕ) → Pre m p q → ByWay m p q
unfolding Pre
pre_by_way (end_byte_at _) p q h = elim h [ ]
pre_by_way (job_at o n r) p q (inl (e, j)) =
    by_first [] (own_way (way_itself o n r e)) closed_nil job_behind (job_way r q j)
pre_by_way (job_at o n r) p q (inr h) = by_behind job_behind (pre_by_way r p q h)
pre_by_way (async_at o b r) p q (inl h) = by_inside async_holds (pre_by_way b p q h)
pre_by_way (async_at o b r) p q (inr h) = by_behind async_behind (pre_by_way r p q h)
pre_by_way (finish_at o b r) p q (inl (i, j)) = by_finish (own finish_holds) (ina_way b p i) finish_behind (job_way r q j)
pre_by_way (finish_at o b r) p q (inr (inl h)) = by_inside finish_holds (pre_by_way b p q h)
pre_by_way (finish_at o b r) p q (inr (inr h)) = by_behind finish_behind (pre_by_way r p q h)
pre_by_way (fork_at o b c r) p q (inl (inl i, j)) = by_fork fork_holds_left (ins_way b p i) fork_behind (job_way r q j)
pre_by_way (fork_at o b c r) p q (inl (inr i, j)) = by_fork fork_holds_right (ins_way c p i) fork_behind (job_way r q j)
pre_by_way (fork_at o b c r) p q (inr (inl h)) = by_inside fork_holds_left (pre_by_way b p q h)
pre_by_way (fork_at o b c r) p q (inr (inr (inl h))) = by_inside fork_holds_right (pre_by_way c p q h)
pre_by_way (fork_at o b c r) p q (inr (inr (inr h))) = by_behind fork_behind (pre_by_way r p q h)
pre_by_way (future_at o b r) p q (inl h) = by_inside future_holds (pre_by_way b p q h)
pre_by_way (future_at o b r) p q (inr h) = by_behind future_behind (pre_by_way r p q h)
pre_by_way (force_at o n b r) p q (inl (i, j)) = by_finish force_reads (ina_way b p i) force_behind (job_way r q j)
pre_by_way (force_at o n b r) p q (inr h) = by_behind force_behind (pre_by_way r p q h)

-- so the order by recursion is in the one defined
pub pre_ahead : (m : Code) (p q : ℕ) → Pre m p q → Ahead m p q
pre_ahead m p q h = let (c, ks, a, k) = pre_by_way m p q h in ahead c ks a k

-- what is ahead behind the first item, by recursion
behind_pre : {m r : Code} (p q : ℕ) → Behind m r → Pre r p q → Pre m p q
unfolding Pre
behind_pre p q job_behind h = inr h
behind_pre p q async_behind h = inr h
behind_pre p q finish_behind h = inr (inr h)
behind_pre p q fork_behind h = inr (inr (inr h))
behind_pre p q future_behind h = inr h
behind_pre p q force_behind h = inr h

-- or in a body that it holds
held_pre : {m b : Code} {k : Kind} (p q : ℕ) → HoldsBody m k b → Pre b p q → Pre m p q
unfolding Pre
held_pre p q async_holds h = inl h
held_pre p q finish_holds h = inr (inl h)
held_pre p q fork_holds_left h = inr (inl h)
held_pre p q fork_holds_right h = inr (inr (inl h))
held_pre p q future_holds h = inl h

-- or by a closed way of the first item to p, with q behind it
first_pre : {c r : Code} {p : ℕ} {ks : List Kind} (q : ℕ) → ReadWay c p ks → Closed ks → Behind c r → Job r q → Pre c p q
unfolding Pre
first_pre q ReadWay.job_itself k job_behind j = inl (refl, j)
first_pre q (ReadWay.down (own async_holds) f w) k async_behind j = absurd (closed_async k)
first_pre q (ReadWay.down (own finish_holds) f w) k finish_behind j = inl (from_ina _ f (way_ina w (none_below k.no_future)), j)
first_pre q (ReadWay.down (own fork_holds_left) f w) k fork_behind j = inl (inl (from_ins _ f (way_ins w (fork_closed k))), j)
first_pre q (ReadWay.down (own fork_holds_right) f w) k fork_behind j = inl (inr (from_ins _ f (way_ins w (fork_closed k))), j)
first_pre q (ReadWay.down (own future_holds) f w) k future_behind j = absurd (closed_future k)
first_pre q (ReadWay.down force_reads f w) k force_behind j = inl (from_ina _ f (way_ina w (none_below k.no_future)), j)

-- or anywhere in a program
within_pre : {m c : Code} (p q : ℕ) → Within m c → Pre c p q → Pre m p q
within_pre p q whole h = h
within_pre p q (behind e i) h = behind_pre p q e (within_pre p q i h)
within_pre p q (inside e i) h = held_pre p q e (within_pre p q i h)

-- the order as defined is in that by recursion
pub ahead_pre : (m : Code) (p q : ℕ) → Ahead m p q → Pre m p q
ahead_pre m p q (ahead c ks (apart r c' ks' i w e f w') k) = within_pre p q i (first_pre q w k e (from_job q f (way_job w')))

-- so they are the same
pub ahead_is_pre : (m : Code) (p q : ℕ) → Ahead m p q ↔ Pre m p q
ahead_is_pre m p q = (ahead_pre m p q, pre_ahead m p q)
