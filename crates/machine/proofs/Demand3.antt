-- Demand 3, of whatever is reached from an accepted loading by steps of its edition. What was reached follows a run of the ghost machine
-- (Tracked). Its counts are conserved (CountLaws), its edges lead to higher ranks (Acyclic), one of its vertices can move on as long as one is
-- not over (Progress), and a job that is answered has nothing ahead of it that is not (WaitLaws, Unanswered). How a run ends from there is in
-- RunEnds.
use Prim.Native.Nat.{ℕ, ◌+◌, ◌<◌, ◌≤◌}
use mathlib.Core.Path.{◌≡◌, refl, sym, ◌∙◌, ap, subst}
use mathlib.Core.Bool.{Bool, true, false, not}
use mathlib.Core.Logic.{◌⊎◌, inl, inr, ◌↔◌}
use mathlib.Core.List.{List, [], ◌∷◌, ◌++◌}
use native.Mathlib.Omega.{arith}
use lib.Dec.{ltb}
use lib.ListN.{length}
use borrow.Author.Tests.{lt-ltb, ltb-true, ltb-false}
use Rattle.graph.specs.Tables.{Lent, vertex_rows}
use Rattle.graph.specs.Paths.{CycleFree, holds}
use Rattle.graph.specs.Answers.{Outcome}
use Rattle.graph.proofs.TestLaws.{true-false, both_true}
use Rattle.program.specs.Trees.{Body, counts}
use Rattle.program.specs.declared.Edition.{Edition}
use Rattle.program.specs.Encodings.{steps_taken, step_formula}
use Rattle.program.specs.Reader.{reading, program}
use Rattle.program.specs.Located.{Code, job_at, located}
use Rattle.program.proofs.LocatedLaws.{laid_located}
use Rattle.program.proofs.Exactness.{reading_complete}
use Rattle.program.proofs.Formulas.{steps_formula}
use Rattle.machine.specs.Answers.{StepSaid, accepted}
use Rattle.machine.specs.Answers as said
use Rattle.machine.specs.Ahead.{Ahead}
use Rattle.machine.specs.Stepping.{steppable, step_limit, step}
use Rattle.machine.specs.Running.{can_step, done, spent, RunOutcome, run}
use Rattle.machine.specs.Dispatching.{waiting, full, dispatch}
use Rattle.machine.specs.Dispatching as dispatching
use Rattle.machine.specs.Reached.{Reached, begun, stepped}
use Rattle.machine.specs.Demand3.{accepted_in, ran_in, Written, Throughout, Demand3}
use Rattle.machine.proofs.Calls.{run_reached, dispatch_reached}
use Rattle.machine.proofs.LoadLaws.{load_exact}
use Rattle.machine.proofs.RunDemand2.{run_ran}
use Rattle.machine.proofs.DispatchDemand2.{dispatch_ran, dispatch_rises}
use Rattle.machine.proofs.AheadIsPre.{ahead_pre}
use Rattle.machine.proofs.AheadUnique.{pre_jobs}
use Rattle.machine.proofs.GhostMachine.Ghost.{Control, draft, fresh, ready, busy, joining, over, Setting, State, Event}
use Rattle.machine.proofs.GhostMachine.Invariant.{Shape, is_new}
use Rattle.machine.proofs.GhostMachine.GhostLaws.{clash, ready_old, busy_old, joining_old}
use Rattle.machine.proofs.GhostMachine.Acyclic.{cycle_free}
use Rattle.machine.proofs.GhostMachine.Progress.{seek, Free, at_code, at_work, unblocked, can_go_on}
use Rattle.machine.proofs.Counting.Weights.{total, each, job_count}
use Rattle.machine.proofs.Counting.Conservation.{and_then}
use Rattle.machine.proofs.Counting.CountLaws.{job_past, over_all, steps_run, steps_bound, job_once, job_done}
use Rattle.machine.proofs.Counting.Unanswered.{nothing_or_held}
use Rattle.machine.proofs.JobOrder.Order.{Pre, Held}
use Rattle.machine.proofs.JobOrder.OrderLaws.{written_job}
use Rattle.machine.proofs.JobOrder.WaitLaws.{in_order}
use Rattle.machine.proofs.TablesFollow.Follows.{setting_of, Refuses, absent, blocked, still_new, already_over, Answers, says_start, says_new}
use Rattle.machine.proofs.TablesFollow.Follows.{says_edge, says_release, says_transfer, says_job, says_stop, says_yield, Followed}
use Rattle.machine.proofs.TablesFollow.Follows.{refused, moved}
use Rattle.machine.proofs.TablesFollow.Tracked.{Tracked, opens_located, answers_accepted, stepped_as, room_steps, rows_lent, tracked}
use Rattle.machine.proofs.TablesFollow.RunEnds.{Ends, ends_done, ends_spent, run_ends, DispatchEnds, at_full_count, before_it}
use Rattle.machine.proofs.TablesFollow.RunEnds.{too_few_marks, dispatch_ends}

-- no path of held edges closes
acyclic :
    {ed : Edition} {bytes : List ℕ} {t : Body} {s₀ : Lent} {answers : List StepSaid} {s : Lent} → Tracked ed bytes t s₀ answers s
    → CycleFree (holds s.edges s.held)
acyclic T = cycle_free T.inv.shape T.inv.ranks T.follows.edges_are

-- all vertices are over, or one is not
is_over : Control → Bool
is_over (draft c) = false
is_over (fresh c) = false
is_over (ready c) = false
is_over (busy c ms) = false
is_over (joining c d ds) = false
is_over over = true

is_all : (x : Control) → not (is_over x) ≡ false → x ≡ over
unfolding is_over
is_all (draft c) h = clash h
is_all (fresh c) h = clash h
is_all (ready c) h = clash h
is_all (busy c ms) h = clash h
is_all (joining c d ds) h = clash h
is_all over h = refl

-- a vertex that can move on is not refused
free_taken : {S : State} {v n : ℕ} → Shape S → Free S v → Refuses S v n → ⊥
unfolding is_new
free_taken {v} shape (at_code e) (absent ge) = let h = shape.beyond v ge in clash cc
free_taken {v} shape (at_work e) (absent ge) = let h = shape.beyond v ge in clash cc
free_taken {v} shape (unblocked e none) (absent ge) = let h = shape.beyond v ge in clash cc
free_taken shape (at_code e) (blocked at u h) = clash cc
free_taken shape (at_work e) (blocked at u h) = clash cc
free_taken shape (unblocked e none) (blocked at u h) = true-false h (none u)
free_taken shape (at_code e) (still_new h) = true-false h (busy_old e)
free_taken shape (at_work e) (still_new h) = true-false h (joining_old e)
free_taken shape (unblocked e none) (still_new h) = true-false h (ready_old e)
free_taken shape (at_code e) (already_over lt h) = clash cc
free_taken shape (at_work e) (already_over lt h) = clash cc
free_taken shape (unblocked e none) (already_over lt h) = clash cc

-- so its step is accepted
pub free_follows :
    {p : Code} {Γ : Setting} {s : Lent} {S : State} {v : ℕ} {o : Outcome StepSaid} → Shape S → Free S v → Followed p Γ s S v o
    → accepted o.answer ≡ true
free_follows shape f (refused n why e) = absurd (free_taken shape f why)
free_follows shape f (moved e S' m f' says tally) = answers_accepted says

-- a vertex that answers a job stands at it
pub answers_at :
    {S : State} {v n o : ℕ} {e : Event} {a : StepSaid} → Answers S v e a → a ≡ said.job n o
    → (r : Code) × (S.control v ≡ busy (job_at o n r) [])
answers_at says_start h = clash cc
answers_at says_new h = clash cc
answers_at (says_edge a b new) h = clash cc
answers_at (says_release m) h = clash cc
answers_at (says_transfer m) h = clash cc
answers_at {S} {v} {n} {o} (says_job {o = o'} {n = n'} {r} at) h =
    let same : (n' ≡ n) × (o' ≡ o) = (cc, cc) in
    (r, at ∙ ap (λ (x : ℕ). busy (job_at x n' r) []) same.1 ∙ ap (λ (x : ℕ). busy (job_at o x r) []) same.0)
answers_at says_stop h = clash cc
answers_at says_yield h = clash cc

-- What was reached, and a further step of v.
module _ (ed : Edition) (bytes : List ℕ) (t : Body) {s₀ : Lent} {answers : List StepSaid} {s : Lent} (r : reading ed bytes ≡ program t)
    (q : Reached ed bytes s₀ answers s)
  where
    abbrev T : Tracked ed bytes t s₀ answers s
    T = tracked ed bytes t r q

    seen : (v : ℕ) → Followed (located t) (setting_of ed bytes) s T.state v (step ed bytes s v)
    seen v = stepped_as ed bytes t s₀ r (rows_lent ed bytes t r q) T v

    -- an accepted step is one of those that are left
    one_left : (v : ℕ) → can_step ed bytes s v ≡ true → accepted_in answers < step_formula ed (counts t)
    one_left v h = go (step ed bytes s v) h (seen v)
      where
        go :
            (o : Outcome StepSaid) → accepted o.answer ≡ true → Followed (located t) (setting_of ed bytes) s T.state v o
            → accepted_in answers < step_formula ed (counts t)
        go o p (refused n why e) = true-false p (ap (λ (x : Outcome StepSaid). accepted x.answer) e)
        go o p (moved e S' m f says tally) =
            let b : length (e ∷ T.events) ≤ steps_taken ed t = steps_bound t (setting_of ed bytes) (and_then T.runs m) in
            omega (arith, b, T.accepted_are, steps_formula ed t)

    -- a vertex that can move on can step
    pub free_steps : (v : ℕ) → Free T.state v → can_step ed bytes s v ≡ true
    free_steps v f = free_follows T.inv.shape f (seen v)

    -- where steps are left, some vertex is not over
    live : accepted_in answers < step_formula ed (counts t) → (v : ℕ) × (T.state.control v ≡ over → ⊥)
    unfolding is_over
    live lt = go (seek (λ v. not (is_over (T.state.control v))) T.state.count)
      where
        go :
            ((v : ℕ) × (not (is_over (T.state.control v)) ≡ true))
            ⊎ ((v : ℕ) → v < T.state.count → not (is_over (T.state.control v)) ≡ false)
            → (v : ℕ) × (T.state.control v ≡ over → ⊥)
        go (inl (v, h)) = (v, λ e. true-false h (ap (λ (x : Control). not (is_over x)) e))
        go (inr none) =
            let z : total each T.state ≡ 0 = over_all each T.state (λ v l. is_all (T.state.control v) (none v l)) in
            absurd (omega (arith, lt, z, steps_run t (setting_of ed bytes) T.runs, T.accepted_are, steps_formula ed t))

    -- at the full count nothing is left
    nothing : accepted_in answers ≡ step_formula ed (counts t) → total each T.state ≡ 0
    nothing h = omega (arith, h, steps_run t (setting_of ed bytes) T.runs, T.accepted_are, steps_formula ed t)

    keeps : (v : ℕ) → accepted (step ed bytes s v).answer ≡ false → (step ed bytes s v).after ≡ s
    keeps v h = go (step ed bytes s v) h (seen v)
      where
        go : (o : Outcome StepSaid) → accepted o.answer ≡ false → Followed (located t) (setting_of ed bytes) s T.state v o → o.after ≡ s
        go o p (refused n why e) = ap (λ (x : Outcome StepSaid). x.after) e
        go o p (moved e S' m f says tally) = true-false (answers_accepted says) p

    -- a job ahead of one that is answered now was answered
    was_answered : (v n o p : ℕ) → (step ed bytes s v).answer ≡ said.job n o → Ahead (located t) p o → ran_in p answers ≡ 1
    was_answered v n o p h a = go (step ed bytes s v) h (seen v)
      where
        before : Pre (located t) p o
        before = ahead_pre (located t) p o a

        now :
            (r' : Code) × (T.state.control v ≡ busy (job_at o n r') [])
            → (total (job_count p) T.state ≡ 0) ⊎ ((u : ℕ) × Held T.state u p)
            → ran_in p answers ≡ 1
        now at (inl z) =
            T.jobs_are p
            ∙ job_past p (located t) (setting_of ed bytes) (laid_located t) (pre_jobs (located t) p o (opens_located ed bytes t r) before).0
            T.runs
            z
        now (r', at) (inr (u, h')) =
            let inv = T.inv in
            absurd (in_order inv.roads (laid_located t) inv.coded inv.orders v o n r' at u p h' before)

        go :
            (x : Outcome StepSaid) → x.answer ≡ said.job n o → Followed (located t) (setting_of ed bytes) s T.state v x
            → ran_in p answers ≡ 1
        go x e (refused k why eq) = let g : said.refused k 0 ≡ said.job n o = sym (ap (λ (y : Outcome StepSaid). y.answer) eq) ∙ e in clash cc
        go x e (moved ev S' m f says tally) = now (answers_at says e) (nothing_or_held T.state p T.inv.shape)

    -- before the full count some vertex can step
    pub some_step : accepted_in answers < step_formula ed (counts t) → (v : ℕ) × (can_step ed bytes s v ≡ true)
    some_step lt =
        let inv = T.inv in
        let (v, l) = live lt in
        let (w, f) = can_go_on inv.shape inv.ranks inv.ended v l in
        (w, free_steps w f)

    -- no job was answered twice
    pub at_most_once : (o : ℕ) → ran_in o answers ≤ 1
    at_most_once o = subst (λ (n : ℕ). n ≤ 1) (sym (T.jobs_are o)) (job_once o (located t) (setting_of ed bytes) (laid_located t) T.runs)

    -- at the full count each written job was answered once
    pub runs_once : (n o : ℕ) → Written t o n → accepted_in answers ≡ step_formula ed (counts t) → ran_in o answers ≡ 1
    runs_once n o w h =
        T.jobs_are o
        ∙ job_done o (located t) (setting_of ed bytes) (laid_located t) (written_job t o n w) T.runs (nothing h)

-- an answer in a list with one more at its end is that one, or stands before it
snoc_split :
    (answers before after : List StepSaid) (a b : StepSaid) → answers ++ (a ∷ []) ≡ before ++ (b ∷ after)
    → ((a ≡ b) × (answers ≡ before)) ⊎ ((rest : List StepSaid) × (answers ≡ before ++ (b ∷ rest)))
snoc_split [] [] after a b e = inl (cc, refl)
snoc_split [] (c ∷ before) after a b e = absurd (empty before (let h : [] ≡ before ++ (b ∷ after) = cc in h))
  where
    empty : (l : List StepSaid) → [] ≡ l ++ (b ∷ after) → ⊥
    empty [] h = clash cc
    empty (x ∷ l) h = clash cc
snoc_split (c ∷ answers) [] after a b e = let h : c ≡ b = cc in inr (answers, ap (λ (x : StepSaid). x ∷ answers) h)
snoc_split (c ∷ answers) (d ∷ before) after a b e =
    let h : answers ++ (a ∷ []) ≡ before ++ (b ∷ after) = cc in
    let g : c ≡ d = cc in
    more (snoc_split answers before after a b h) g
  where
    more :
        ((a ≡ b) × (answers ≡ before)) ⊎ ((rest : List StepSaid) × (answers ≡ before ++ (b ∷ rest))) → c ≡ d
        → ((a ≡ b) × (c ∷ answers ≡ d ∷ before)) ⊎ ((rest : List StepSaid) × (c ∷ answers ≡ d ∷ (before ++ (b ∷ rest))))
    more (inl (p, q)) g = inl (p, cc)
    more (inr (rest, q)) g = inr (rest, cc)

-- where no vertex can step the full count is reached
none_left :
    (ed : Edition) (bytes : List ℕ) (t : Body) {s₀ : Lent} {answers : List StepSaid} {s : Lent} → reading ed bytes ≡ program t
    → Reached ed bytes s₀ answers s → ((v : ℕ) → can_step ed bytes s v ≡ false) → s.steps ≡ step_formula ed (counts t)
none_left ed bytes t {s₀} {answers} {s} r q none = go (ltb (accepted_in answers) (step_formula ed (counts t))) refl (tracked ed bytes t r q)
  where
    over_count : accepted_in answers < step_formula ed (counts t) → ⊥
    over_count lt = let (v, can) = some_step ed bytes t r q lt in true-false can (none v)

    go :
        (b : Bool) → ltb (accepted_in answers) (step_formula ed (counts t)) ≡ b → Tracked ed bytes t s₀ answers s
        → s.steps ≡ step_formula ed (counts t)
    go true e U = absurd (over_count (ltb-true (accepted_in answers) (step_formula ed (counts t)) e))
    go false e U =
        let ge : step_formula ed (counts t) ≤ accepted_in answers = ltb-false (accepted_in answers) (step_formula ed (counts t)) e in
        omega (arith, ge, U.accepted_are, U.steps_are, steps_bound t (setting_of ed bytes) U.runs, steps_formula ed t)

-- 12 finds nothing here
fit :
    (ed : Edition) (bytes : List ℕ) (t : Body) {s₀ : Lent} {answers : List StepSaid} {s : Lent} → reading ed bytes ≡ program t
    → Reached ed bytes s₀ answers s → steppable s ≡ true
unfolding steppable
fit ed bytes t {s₀} {s = s} r q =
    let U = tracked ed bytes t r q in
    both_true U.follows.sound_is (lt-ltb s.steps step_limit (room_steps ed bytes t s₀ r (rows_lent ed bytes t r q) U 0))

-- how a run ends from here
ends :
    (ed : Edition) (bytes : List ℕ) (t : Body) {s₀ : Lent} {answers : List StepSaid} {s : Lent} → reading ed bytes ≡ program t
    → Reached ed bytes s₀ answers s → (budget : ℕ) → Ends ed t s (run ed bytes s budget)
ends ed bytes t {s₀} {s = s} r q budget =
    let q' = run_reached ed bytes s₀ s budget q in
    run_ends (run ed bytes s budget) (fit ed bytes t r q) (run_ran ed bytes s budget) (tracked ed bytes t r q') (none_left ed bytes t r q')

-- and how a dispatch does
dispatched :
    (ed : Edition) (bytes : List ℕ) (t : Body) {s₀ : Lent} {answers : List StepSaid} {s : Lent} → reading ed bytes ≡ program t
    → Reached ed bytes s₀ answers s → (marks list : List ℕ) (budget : ℕ) → DispatchEnds ed t marks s (dispatch ed bytes s marks list budget)
dispatched ed bytes t {s₀} {s = s} r q marks list budget =
    let q' = dispatch_reached ed bytes s₀ s marks list budget q in
    dispatch_ends (dispatch ed bytes s marks list budget) (fit ed bytes t r q) (dispatch_ran ed bytes s marks list budget)
    (tracked ed bytes t r q')
    (none_left ed bytes t r q')

-- after loading and after every step
never :
    (ed : Edition) (bytes : List ℕ) (t : Body) {s₀ : Lent} {answers : List StepSaid} {s : Lent} → reading ed bytes ≡ program t
    → (q : Reached ed bytes s₀ answers s) → Throughout (λ s'. CycleFree (holds s'.edges s'.held)) q
unfolding Throughout
never ed bytes t r (begun h) = acyclic (tracked ed bytes t r (begun h))
never ed bytes t r (stepped q v) = (never ed bytes t r q, acyclic (tracked ed bytes t r (stepped q v)))

-- what its end says
done_full :
    {ed : Edition} {t : Body} {s : Lent} {o : RunOutcome} → Ends ed t s o
    → (o.ending ≡ done) ↔ (o.after.steps ≡ step_formula ed (counts t))
done_full (ends_done e f c) = (λ h. f, λ h. e)
done_full (ends_spent e f c) = (λ h. let z : done ≡ spent = sym h ∙ e in clash cc, λ h. absurd (f h))

else_spent : {ed : Edition} {t : Body} {s : Lent} {o : RunOutcome} → Ends ed t s o → (o.ending ≡ done → ⊥) → o.ending ≡ spent
else_spent (ends_done e f c) h = absurd (h e)
else_spent (ends_spent e f c) h = e

rises : {ed : Edition} {t : Body} {s : Lent} {o : RunOutcome} → Ends ed t s o → o.after.steps ≡ s.steps + o.taken
rises (ends_done e f c) = c
rises (ends_spent e f c) = c

-- what a dispatch's end says
module _ {ed : Edition} {t : Body} {marks : List ℕ} {s : Lent} {o : dispatching.Outcome} where
  dispatched_full :
      DispatchEnds ed t marks s o → vertex_rows s.vertices ≤ length marks
      → (o.ending ≡ dispatching.done) ↔ (o.after.steps ≡ step_formula ed (counts t))
  dispatched_full (at_full_count e f) enough = (λ h. f, λ h. e)
  dispatched_full (before_it e f) enough = (λ h. absurd (not_done e h), λ h. absurd (f h))
    where
      not_done : (o.ending ≡ waiting) ⊎ ((o.ending ≡ full) ⊎ (o.ending ≡ dispatching.spent)) → o.ending ≡ dispatching.done → ⊥
      not_done (inl e) h = clash cc
      not_done (inr (inl e)) h = clash cc
      not_done (inr (inr e)) h = clash cc
  dispatched_full (too_few_marks short e) enough = absurd (omega arith)

  dispatched_else :
      DispatchEnds ed t marks s o → vertex_rows s.vertices ≤ length marks → (o.ending ≡ dispatching.done → ⊥)
      → (o.ending ≡ waiting) ⊎ ((o.ending ≡ full) ⊎ (o.ending ≡ dispatching.spent))
  dispatched_else (at_full_count e f) enough h = absurd (h e)
  dispatched_else (before_it e f) enough h = e
  dispatched_else (too_few_marks short e) enough h = absurd (omega arith)

  not_stuck : DispatchEnds ed t marks s o → o.ending ≡ dispatching.stuck → ⊥
  not_stuck (at_full_count e f) h = clash cc
  not_stuck (before_it (inl e) f) h = clash cc
  not_stuck (before_it (inr (inl e)) f) h = clash cc
  not_stuck (before_it (inr (inr e)) f) h = clash cc
  not_stuck (too_few_marks short e) h = clash cc

-- in every list of answers
ordered :
    (ed : Edition) (bytes : List ℕ) (t : Body) {s₀ : Lent} {answers : List StepSaid} {s : Lent} → reading ed bytes ≡ program t
    → (q : Reached ed bytes s₀ answers s) → (before after : List StepSaid) (n o p : ℕ) → answers ≡ before ++ (said.job n o ∷ after)
    → Ahead (located t) p o → ran_in p before ≡ 1
ordered ed bytes t r (begun h) [] after n o p e a = clash cc
ordered ed bytes t r (begun h) (b ∷ before) after n o p e a = clash cc
ordered ed bytes t r (stepped {answers} {s} q v) before after n o p e a =
    go (snoc_split answers before after (step ed bytes s v).answer (said.job n o) e) (λ rest f. ordered ed bytes t r q before rest n o p f a)
  where
    go :
        (((step ed bytes s v).answer ≡ said.job n o) × (answers ≡ before))
        ⊎ ((rest : List StepSaid) × (answers ≡ before ++ (said.job n o ∷ rest)))
        → ((rest : List StepSaid) → answers ≡ before ++ (said.job n o ∷ rest) → ran_in p before ≡ 1) → ran_in p before ≡ 1
    go (inl (x, y)) again = subst (λ (l : List StepSaid). ran_in p l ≡ 1) y (was_answered ed bytes t r q v n o p x a)
    go (inr (rest, f)) again = again rest f

-- Demand 3, of whatever is reached from an accepted loading.
pub demand3 :
    (ed : Edition) (bytes : List ℕ) (t : Body) {s₀ : Lent} {answers : List StepSaid} {s : Lent} → reading ed bytes ≡ program t
    → (q : Reached ed bytes s₀ answers s) → Demand3 ed bytes t q
demand3 ed bytes t {s = s} r q =
    let U = tracked ed bytes t r q in
    record {
      at_most = omega (arith, U.accepted_are, steps_bound t (setting_of ed bytes) U.runs, steps_formula ed t);
      tally_tells = U.steps_are ∙ sym U.accepted_are;
      progress = (λ (v, h). one_left ed bytes t r q v h, some_step ed bytes t r q);
      once = at_most_once ed bytes t r q;
      only_written = U.only_written;
      in_order = ordered ed bytes t r q;
      all_run = λ h n o w. runs_once ed bytes t r q n o w h;
      never_cyclic = never ed bytes t r q;
      refusals = U.refusals;
      refused_keep = keeps ed bytes t r q;
      run_done = λ budget. done_full (ends ed bytes t r q budget);
      run_else = λ budget. else_spent (ends ed bytes t r q budget);
      run_counts = λ budget. rises (ends ed bytes t r q budget);
      dispatch_done = λ marks list budget. dispatched_full (dispatched ed bytes t r q marks list budget);
      dispatch_else = λ marks list budget. dispatched_else (dispatched ed bytes t r q marks list budget);
      never_stuck = λ marks list budget. not_stuck (dispatched ed bytes t r q marks list budget);
      dispatch_counts = λ marks list budget. dispatch_rises ed bytes s marks list budget;
    }

-- What was loaded has a tree.
pub reached_program :
    (ed : Edition) (bytes : List ℕ) {s₀ : Lent} {answers : List StepSaid} {s : Lent} → Reached ed bytes s₀ answers s
    → (t : Body) × (reading ed bytes ≡ program t)
reached_program ed bytes {s₀} (begun h) =
    let (t, l, e, n) = (load_exact ed bytes s₀).0 h in
    (t, ap (reading ed) e ∙ reading_complete ed t l)
reached_program ed bytes (stepped q v) = reached_program ed bytes q
