-- A job that was not answered yet is held by some vertex: it weighs something in what is left to do, and what is left is left to a vertex,
-- in whose code it is written, or, of a draft, in the code of the vertex that made it.
use Prim.Native.Nat.{ℕ, zero, suc, ◌+◌}
use mathlib.Core.Path.{◌≡◌, refl, sym, ◌∙◌, ap, subst}
use mathlib.Core.Logic.{◌⊎◌, inl, inr, ⊎_elim}
use mathlib.Core.List.{List, [], ◌∷◌}
use native.Mathlib.Omega.{arith}
use lib.ListN.{length, drop}
use Rattle.graph.proofs.TestLaws.{equal?}
use Rattle.program.specs.Trees.{Kind, jobs, asyncs, finishes, forks, futures, forces}
use Rattle.program.specs.declared.Edition.{Edition}
use Rattle.program.specs.declared.Edition.TheVariants.{First, Second}
use Rattle.program.specs.Encodings.{fork_row, row_of, weight}
use Rattle.program.specs.Located.{Code, end_byte_at, job_at, async_at, finish_at, fork_at, future_at, force_at}
use Rattle.machine.proofs.GhostMachine.Ghost.{Do, link, hand, free, yield, Control, draft, fresh, ready, busy, joining, over, Setting, State}
use Rattle.machine.proofs.GhostMachine.Ghost.{Kid, fork_kids, fork_goes, kids}
use Rattle.machine.proofs.GhostMachine.Invariant.{In, Shape, Drafts}
use Rattle.machine.proofs.GhostMachine.GhostLaws.{in_none, in_cases}
use Rattle.machine.proofs.Counting.Weights.{join_weight, joins_weight, body_weight, kids_weight, behind_weight, tasks_weight, left, total_below, total}
use Rattle.machine.proofs.Counting.Weights.{job_count}
use Rattle.machine.proofs.Counting.CountLaws.{jobs_at, jobs_end, jobs_job, jobs_async, jobs_finish, jobs_fork, jobs_future, jobs_force}
use Rattle.machine.proofs.Counting.CountLaws.{other_job}
use Rattle.machine.proofs.JobOrder.Order.{Job, holds, Held, held}

-- a sum is 0, or one of its parts gives something instead
parts_or : {A B : Type 0} {all w w' : ℕ} → all ≡ w + w' → (w ≡ 0) ⊎ A → (w' ≡ 0) ⊎ B → (all ≡ 0) ⊎ (A ⊎ B)
parts_or e (inl x) (inl y) = inl (omega arith)
parts_or e (inr a) y = inr (inl a)
parts_or e (inl x) (inr b) = inr (inr b)

-- so is a sum over numbers
sum_or : {A : Type 0} (f : ℕ → ℕ) → ((v : ℕ) → (f v ≡ 0) ⊎ A) → (n : ℕ) → (total_below f n ≡ 0) ⊎ A
unfolding total_below
sum_or f h zero = inl refl
sum_or f h (suc n) = ⊎_elim inl (λ a. inr (⊎_elim (λ x. x) (λ x. x) a)) (parts_or refl (h n) (sum_or f h n))

-- a job weighs nothing in code, or it is written there
job_or : (ed : Edition) (p : ℕ) (c : Code) → (jobs_at ed p c ≡ 0) ⊎ Job c p
unfolding Job
job_or ed p (end_byte_at o) = inl (jobs_end ed p o)
job_or ed p (job_at o n r) =
    parts_or (jobs_job ed p o n r) (⊎_elim (λ e. inr (sym e)) (λ ne. inl (other_job o p ne)) (equal? o p)) (job_or ed p r)
job_or ed p (async_at o b r) = parts_or (jobs_async ed p o b r) (job_or ed p b) (job_or ed p r)
job_or ed p (finish_at o b r) = parts_or (jobs_finish ed p o b r) (job_or ed p b) (job_or ed p r)
job_or ed p (fork_at o b c r) = parts_or (jobs_fork ed p o b c r) (job_or ed p b) (parts_or refl (job_or ed p c) (job_or ed p r))
job_or ed p (future_at o b r) = parts_or (jobs_future ed p o b r) (job_or ed p b) (job_or ed p r)
job_or ed p (force_at o n b r) = ⊎_elim (λ z. inl (jobs_force ed p o n b r ∙ z)) inr (job_or ed p r)

-- commands that join vertices weigh nothing
joins_nothing : (ed : Edition) (p : ℕ) (k : Kind) → joins_weight ed (job_count p) k ≡ 0
unfolding joins_weight join_weight weight row_of fork_row job_count
joins_nothing ed p jobs = refl
joins_nothing ed p asyncs = refl
joins_nothing ed p finishes = refl
joins_nothing First p forks = refl
joins_nothing Second p forks = refl
joins_nothing ed p futures = refl
joins_nothing ed p forces = refl

tasks_nothing : (p : ℕ) (ds : List Do) → tasks_weight (job_count p) ds ≡ 0
unfolding tasks_weight job_count
tasks_nothing p [] = refl
tasks_nothing p (link a b ∷ ds) = omega (arith, tasks_nothing p ds)
tasks_nothing p (hand h ∷ ds) = omega (arith, tasks_nothing p ds)
tasks_nothing p (free m ∷ ds) = omega (arith, tasks_nothing p ds)
tasks_nothing p (yield ∷ ds) = refl

-- a job is written in the code of one of these vertices
unfoldable KidJob : List Kid → ℕ → Type 0
KidJob [] p = ⊥
KidJob (k ∷ ks) p = Job k.code p ⊎ KidJob ks p

-- then it is written in the item that makes them: behind a fork's branches in its rest,
fork_kid_job : (ed : Edition) (p : ℕ) (r : Code) → KidJob (fork_kids ed r) p → Job r p
unfolding KidJob fork_kids
fork_kid_job First p r (inl j) = j
fork_kid_job First p r (inr h) = absurd h
fork_kid_job Second p r h = absurd h

-- and anywhere
kid_job : (Γ : Setting) (p : ℕ) (c : Code) → KidJob (kids Γ c) p → Job c p
unfolding KidJob kids Job
kid_job Γ p (end_byte_at o) h = absurd h
kid_job Γ p (job_at o n r) h = absurd h
kid_job Γ p (async_at o b r) (inl j) = inl j
kid_job Γ p (async_at o b r) (inr h) = absurd h
kid_job Γ p (finish_at o b r) (inl j) = inr j
kid_job Γ p (finish_at o b r) (inr (inl j)) = inl j
kid_job Γ p (finish_at o b r) (inr (inr h)) = absurd h
kid_job Γ p (fork_at o b c r) (inl j) = inl j
kid_job Γ p (fork_at o b c r) (inr (inl j)) = inr (inl j)
kid_job Γ p (fork_at o b c r) (inr (inr j)) = inr (inr (fork_kid_job Γ.edition p r j))
kid_job Γ p (future_at o b r) (inl j) = absurd j
kid_job Γ p (future_at o b r) (inr (inl j)) = inl j
kid_job Γ p (future_at o b r) (inr (inr h)) = absurd h
kid_job Γ p (force_at o n b r) (inl j) = j
kid_job Γ p (force_at o n b r) (inr h) = absurd h

-- a job of a draft is one of its item's vertices'
draft_job :
    (S : State) (v m p : ℕ) (all ms : List ℕ) (ks : List Kid) (c : Code) → Drafts S v all ms ks → In m ms → S.control m ≡ draft c
    → Job c p → KidJob ks p
unfolding Drafts KidJob
draft_job S v m p all [] ks c h i e j = in_none i
draft_job S v m p all (x ∷ ms) [] c h i e j = absurd h
draft_job S v m p all (x ∷ ms) (k ∷ ks) c (d, ds) i e j =
    in_cases i
    (λ q. inl (same q))
    (λ l. inr (draft_job S v m p all ms ks c ds l e j))
  where
    same : m ≡ x → Job k.code p
    same q =
        let a : S.control m ≡ draft k.code = ap S.control q ∙ d.is_draft in
        let b : c ≡ k.code = cc in
        subst (λ (y : Code). Job y p) b j

-- some vertices still to be made weigh nothing, or one of them has the job
kids_or : (ed : Edition) (p : ℕ) (ks : List Kid) → (kids_weight ed (job_count p) ks ≡ 0) ⊎ KidJob ks p
unfolding kids_weight KidJob job_count
kids_or ed p [] = inl refl
kids_or ed p (k ∷ ks) = parts_or (omega arith) (job_or ed p k.code) (kids_or ed p ks)

-- the last ones among all
kids_drop : (p n : ℕ) (ks : List Kid) → KidJob (drop n ks) p → KidJob ks p
unfolding KidJob
kids_drop p zero ks h = h
kids_drop p (suc n) [] h = h
kids_drop p (suc n) (k ∷ ks) h = inr (kids_drop p n ks h)

-- the code where a fork's vertex goes weighs nothing, or the job is written in the rest
fork_goes_or : (ed : Edition) (p L : ℕ) (r : Code) → (jobs_at ed p (fork_goes ed L r) ≡ 0) ⊎ Job r p
unfolding fork_goes
fork_goes_or First p L r = inl (jobs_end First p L)
fork_goes_or Second p L r = job_or Second p r

-- the code behind an item's vertices weighs nothing, or the job is written in it
behind_or : (Γ : Setting) (p : ℕ) (c : Code) → (behind_weight Γ (job_count p) c ≡ 0) ⊎ Job c p
unfolding behind_weight body_weight job_count Job
behind_or Γ p (end_byte_at o) = inl refl
behind_or Γ p (job_at o n r) = job_or Γ.edition p (job_at o n r)
behind_or Γ p (async_at o b r) =
    ⊎_elim (λ z. inl (omega (arith, z, joins_nothing Γ.edition p asyncs))) (λ j. inr (inr j)) (job_or Γ.edition p r)
behind_or Γ p (finish_at o b r) = inl (omega (arith, joins_nothing Γ.edition p finishes))
behind_or Γ p (fork_at o b c r) =
    ⊎_elim (λ z. inl (omega (arith, z, joins_nothing Γ.edition p forks))) (λ j. inr (inr (inr j)))
    (fork_goes_or Γ.edition p Γ.last_byte r)
behind_or Γ p (future_at o b r) =
    ⊎_elim (λ z. inl (omega (arith, z, joins_nothing Γ.edition p futures))) (λ j. inr (inr j)) (job_or Γ.edition p r)
behind_or Γ p (force_at o n b r) = inl (omega (arith, joins_nothing Γ.edition p forces))

-- What is left to a vertex weighs nothing, or some vertex holds the job.
held_or :
    (S : State) (v p : ℕ) → Shape S → (x : Control) → S.control v ≡ x → (left S.setting (job_count p) x ≡ 0) ⊎ ((u : ℕ) × Held S u p)
unfolding left job_count holds tasks_weight
held_or S v p shape (draft c) e =
    ⊎_elim (λ z. inl (omega (arith, z)))
    (λ j.
    let (c', ms, at, i) = shape.drafts v c e in
    let drafts = (shape.under_way (S.maker v) c' ms at).0 in
    inr (S.maker v, held c' (ap holds at) (kid_job S.setting p c' (draft_job S (S.maker v) v p ms ms (kids S.setting c') c drafts i e j))))
    (job_or S.setting.edition p c)
held_or S v p shape (fresh c) e =
    ⊎_elim (λ z. inl (omega (arith, z))) (λ j. inr (v, held c (ap holds e) j)) (job_or S.setting.edition p c)
held_or S v p shape (ready c) e =
    ⊎_elim (λ z. inl (omega (arith, z))) (λ j. inr (v, held c (ap holds e) j)) (job_or S.setting.edition p c)
held_or S v p shape (busy c ms) e =
    let Γ = S.setting in
    ⊎_elim inl
    (λ j. inr (v, held c (ap holds e) (⊎_elim (λ k. kid_job Γ p c (kids_drop p (length ms) (kids Γ c) k)) (λ j. j) j)))
    (parts_or refl (kids_or Γ.edition p (drop (length ms) (kids Γ c))) (behind_or Γ p c))
held_or S v p shape (joining c d ds) e =
    ⊎_elim (λ z. inl (omega (arith, z, tasks_nothing p (d ∷ ds)))) (λ j. inr (v, held c (ap holds e) j)) (job_or S.setting.edition p c)
held_or S v p shape over e = inl refl

-- Nothing of a job is left to do, or some vertex holds it.
pub nothing_or_held : (S : State) (p : ℕ) → Shape S → (total (job_count p) S ≡ 0) ⊎ ((u : ℕ) × Held S u p)
unfolding total
nothing_or_held S p shape =
    sum_or (λ v. left S.setting (job_count p) (S.control v)) (λ v. held_or S v p shape (S.control v) refl) S.count
