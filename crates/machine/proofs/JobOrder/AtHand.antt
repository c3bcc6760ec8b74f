-- Nothing waits needlessly: where jobs are all that can be done next, a job of which nothing ahead is still to be answered is one of them. No
-- item is under way there, so each vertex that is not over stands at a job or is released; and a released one waits, from edge to edge, for one
-- that stands at a job, which is then ahead of all that the released one holds.
use Prim.Native.Nat.{ℕ}
use mathlib.Core.Path.{◌≡◌, refl, sym, ◌∙◌, ap, subst}
use mathlib.Core.Bool.{true}
use mathlib.Core.Logic.{◌⊎◌, inl, inr, ⊎_elim}
use mathlib.Core.List.{[]}
use mathlib.Core.Option.{some, some-injective, none-ne-some}
use native.Mathlib.Omega.{arith}
use Rattle.program.specs.Located.{Code, job_at}
use Rattle.machine.proofs.GhostMachine.Ghost.{Do, Control, draft, fresh, ready, busy, joining, over, Setting, State, kids}
use Rattle.machine.proofs.GhostMachine.Invariant.{In, tasks, tasks_of, is_new, Settled, held, Way, one, Shape, Ranks}
use Rattle.machine.proofs.GhostMachine.GhostLaws.{clash, in_empty}
use Rattle.machine.proofs.GhostMachine.Ended.{Ended}
use Rattle.machine.proofs.GhostMachine.Progress.{Free, at_code, at_work, Back, itself, at_maker, along, busy_with, goes_back}
use Rattle.machine.proofs.GhostMachine.Ways.{way_join}
use Rattle.machine.proofs.Counting.Weights.{body_weight, kids_weight, behind_weight, left, job_count}
use Rattle.machine.proofs.Counting.CountLaws.{jobs_at}
use Rattle.machine.proofs.JobOrder.Order.{Job, InS, Pre, holds, Held, Waits, for_way, Orders}
use Rattle.machine.proofs.JobOrder.WaitLaws.{over-holds, holds_one, job_own, busy-holds}

-- v stands at the job at o
abbrev pub AtJob : State → ℕ → ℕ → Type 0
AtJob S v o = (n : ℕ) × (r : Code) × (S.control v ≡ busy (job_at o n r) [])

-- whoever can move on stands at a job
abbrev pub OnlyJobs : State → Type 0
OnlyJobs S = (v : ℕ) → Free S v → (o : ℕ) × AtJob S v o

-- it holds that job
at_held : {S : State} {v o : ℕ} → AtJob S v o → Held S v o
at_held (n, r, at) = Held.held (job_at _ n r) (busy-holds at) (job_own _ n r)

-- whoever waits for the vertex waits for the job
first_awaited : (o n : ℕ) (r : Code) → InS (job_at o n r) o
unfolding InS
first_awaited o n r = inl refl

-- and it is ahead of the vertex's others
first_ahead : (o n q : ℕ) (r : Code) → Job (job_at o n r) q → (q ≡ o) ⊎ Pre (job_at o n r) o q
unfolding Job Pre
first_ahead o n q r (inl e) = inl e
first_ahead o n q r (inr j) = inr (inl (refl, j))

-- what is left to it, of any job, is what its code has
job_left : (Γ : Setting) (p o n : ℕ) (r : Code) → left Γ (job_count p) (busy (job_at o n r) []) ≡ jobs_at Γ.edition p (job_at o n r)
unfolding left kids kids_weight behind_weight body_weight
job_left Γ p o n r = omega arith

ready-left : (Γ : Setting) (p : ℕ) (c : Code) → left Γ (job_count p) (ready c) ≡ jobs_at Γ.edition p c
unfolding left job_count
ready-left Γ p c = omega arith

module _ {S : State} (shape : Shape S) (only : OnlyJobs S) where
  -- no item has anything left to do,
  idle : (t : ℕ) {d : Do} → In d (tasks_of S t) → ⊥
  unfolding tasks
  idle t i = let (o, (n, r, at)) = only t (busy_with t i) in in_empty (ap tasks at) i

  -- so no vertex is new,
  none_new : (v : ℕ) (x : Control) → S.control v ≡ x → is_new x ≡ true → ⊥
  unfolding is_new
  none_new v (draft c) e h =
      let (c', ms, at, i) = shape.drafts v c e in
      let (o, (n, r, at')) = only (S.maker v) (at_code at) in
      let none : ms ≡ [] = cc in
      in_empty none i
  none_new v (fresh c) e h = idle (S.maker v) (shape.freshes v c e)
  none_new v (ready c) e h = clash (sym h)
  none_new v (busy c ms) e h = clash (sym h)
  none_new v (joining c d ds) e h = clash (sym h)
  none_new v over e h = clash (sym h)

  -- and back along edges one comes to a vertex that stands at a job
  from_job : {v : ℕ} → Back S v → ((o : ℕ) × AtJob S v o) ⊎ ((w : ℕ) × (o : ℕ) × AtJob S w o × Way (Settled S) w v)
  from_job (itself {v} f) = inl (only v f)
  from_job (at_maker {v} new f) = absurd (none_new v (S.control v) refl new)
  from_job (along {u} {v} e b) =
      let s : Settled S u v = held e (λ h i. idle u i) in
      ⊎_elim
      (λ (o, at). inr (u, o, at, one s))
      (λ (w, o, at, way). inr (w, o, at, way_join way (one s)))
      (from_job b)

  -- what is left of a job is left to who holds it
  pub held_left :
      (p v : ℕ) (x : Control) (c : Code) → S.control v ≡ x → holds x ≡ some c → left S.setting (job_count p) x ≡ jobs_at S.setting.edition p c
  unfolding holds
  held_left p v (draft d) c e h = absurd (none-ne-some c h)
  held_left p v (fresh d) c e h = absurd (idle (S.maker v) (shape.freshes v d e))
  held_left p v (ready d) c e h = ready-left S.setting p d ∙ ap (jobs_at S.setting.edition p) (some-injective d c h)
  held_left p v (busy d ms) c e h =
      let (o, (n, r, at)) = only v (at_code e) in
      let there : busy d ms ≡ busy (job_at o n r) [] = sym e ∙ at in
      let same : job_at o n r ≡ c = holds_one (busy d ms) (ap holds there) h in
      ap (left S.setting (job_count p)) there ∙ job_left S.setting p o n r ∙ ap (jobs_at S.setting.edition p) same
  held_left p v (joining d k ks) c e h = let (o, (n, r, at)) = only v (at_work e) in clash cc
  held_left p v over c e h = absurd (none-ne-some c h)

  -- Of a job that some vertex holds, it or one that is ahead of it is one that a vertex stands at.
  pub some_at_hand :
      {m : Code} → Ranks S → Ended S → Orders m S → (u o : ℕ) → Held S u o
      → AtJob S u o ⊎ ((w : ℕ) × (p : ℕ) × AtJob S w p × Pre m p o)
  some_at_hand {m} ranks ended orders u o (Held.held c h j) =
      ⊎_elim
      (λ (p, at). standing p at)
      (λ (w, p, at, way). awaiting w p at way)
      (from_job (goes_back shape ranks ended u (λ z. over-holds z h)))
    where
      -- another job is ahead
      behind : (w p : ℕ) → AtJob S w p → Waits S u p ⊎ Pre c p o → Pre m p o
      behind w p at before = orders.each u o c h j w p (at_held at) before

      standing : (p : ℕ) → AtJob S u p → AtJob S u o ⊎ ((w : ℕ) × (p : ℕ) × AtJob S w p × Pre m p o)
      standing p (n, r, at) =
          let same : c ≡ job_at p n r = holds_one (S.control u) h (busy-holds at) in
          ⊎_elim
          (λ e. inl (n, r, subst (λ (x : ℕ). S.control u ≡ busy (job_at x n r) []) (sym e) at))
          (λ f. inr (u, p, (n, r, at), behind u p (n, r, at) (inr (subst (λ (d : Code). Pre d p o) (sym same) f))))
          (first_ahead p n o r (subst (λ (d : Code). Job d o) same j))

      awaiting : (w p : ℕ) → AtJob S w p → Way (Settled S) w u → AtJob S u o ⊎ ((w : ℕ) × (p : ℕ) × AtJob S w p × Pre m p o)
      awaiting w p (n, r, at) way =
          inr (w, p, (n, r, at), behind w p (n, r, at) (inl (for_way w (job_at p n r) (busy-holds at) way (first_awaited p n r))))

  -- So one of which nothing ahead is still to be answered is one that a vertex stands at.
  pub at_hand :
      {m : Code} → Ranks S → Ended S → Orders m S → (u o : ℕ) → Held S u o → ((w p : ℕ) → Held S w p → Pre m p o → ⊥) → AtJob S u o
  at_hand ranks ended orders u o h first =
      ⊎_elim (λ at. at) (λ (w, p, at, before). absurd (first w p (at_held at) before)) (some_at_hand ranks ended orders u o h)
