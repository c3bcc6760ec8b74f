-- Nothing waits needlessly: where a dispatch in a host's history ends waiting, each job that was not handed out yet has one ahead of it that is
-- still running (`nothing_waits_needlessly`). It waits only where a job is running (`waits_for_one`).
--
-- A busy vertex has not moved since its job was answered, so the jobs that are running may as well be the last steps of all (StillRunning). Before
-- them each busy vertex stands at its job; and where only busy vertices can step, jobs are all that could be stepped there. Then a job that was not
-- answered has one ahead of it that can be, or is one itself (AtHand), and those are the running ones.
use Prim.Native.Nat.{ℕ, ◌<◌, ◌≤◌, ◌/◌, min}
use mathlib.Core.Path.{◌≡◌, refl, sym, ◌∙◌, ap, subst}
use mathlib.Core.Bool.{true, false, not}
use mathlib.Core.Logic.{◌⊎◌, inl, inr, ⊎_elim}
use mathlib.Core.List.{List, [], ◌∷◌, ◌++◌, append-nil, append_assoc}
use native.Mathlib.Omega.{arith}
use lib.Dec.{eqb}
use lib.ListN.{length, get_or, set, get_or-eq_default}
use lib.Seq.{get_or-set_same, get_or-set_other, set_out}
use Rattle.graph.specs.Tables.{Lent, usable_limit, vertex_words, vertex_rows}
use Rattle.graph.specs.InCounts.{CountsTrue}
use Rattle.graph.specs.Answers.{Outcome}
use Rattle.graph.proofs.TestLaws.{true-false, equal?}
use Rattle.graph.proofs.SoundLaws.{sound_fits}
use Rattle.program.specs.Trees.{Body}
use Rattle.program.specs.declared.Edition.{Edition}
use Rattle.program.specs.Reader.{reading, program}
use Rattle.program.specs.Located.{Code, job_at, located}
use Rattle.program.proofs.LocatedLaws.{laid_located}
use Rattle.machine.specs.Answers.{StepSaid, accepted, is_loaded}
use Rattle.machine.specs.Answers as said
use Rattle.machine.specs.Ahead.{Ahead}
use Rattle.machine.specs.Loading.{load}
use Rattle.machine.specs.Stepping.{step}
use Rattle.machine.specs.Running.{can_step}
use Rattle.machine.specs.Dispatching.{is_busy, Desk, marks_of, hand_out, waiting, dispatch}
use Rattle.machine.specs.Dispatching as dispatching
use Rattle.machine.specs.Demand2.{Lends, FreeSteps, no_turn, turn, OnlyFreeSteps, tables_refused, marks_refused, takes_free_steps}
use Rattle.machine.specs.Demand2.{DispatchLooks}
use Rattle.machine.specs.Reached.{Reached, begun, answers_along, dispatch_steps, dispatch_answers}
use Rattle.machine.specs.Demand3.{answers_job, ran_in, Written}
use Rattle.machine.specs.HandedOut.{Job, aJob, job_from, jobs_among, marked_by, In, here, without, Hosted, load_first, then_dispatch, then_clear}
use Rattle.machine.proofs.AheadIsPre.{pre_ahead}
use Rattle.machine.proofs.Calls.{dispatch_reached}
use Rattle.machine.proofs.LookLaws.{step_true}
use Rattle.machine.proofs.StepDemand2.{can_ready}
use Rattle.machine.proofs.DispatchDemand2.{dispatch_ran, dispatch_looks}
use Rattle.machine.proofs.HandedOut.{HasJob, handed_answer, marked_length, below?, mark_cases, mark_stays, mark_set}
use Rattle.machine.proofs.Demand3.{free_follows, answers_at}
use Rattle.machine.proofs.JobsAnswered.{answers_own}
use Rattle.machine.proofs.GhostMachine.Ghost.{Control, busy, State, put, with_control, Event, a_job, event_of, link, hand, free, yield, Move}
use Rattle.machine.proofs.GhostMachine.Ghost.{begins, performs, stops, makes, splits, acts}
use Rattle.machine.proofs.GhostMachine.GhostLaws.{clash, put_cases, in_cases, in_none, in_left, in_right, in_either}
use Rattle.machine.proofs.GhostMachine.Beginning.{beginning}
use Rattle.machine.proofs.GhostMachine.InvariantKept.{Inv, inv_kept}
use Rattle.machine.proofs.GhostMachine.Progress.{Free, at_code, at_work, unblocked}
use Rattle.machine.proofs.Counting.Weights.{spent, job_count, total}
use Rattle.machine.proofs.Counting.Conservation.{Runs, and_then}
use Rattle.machine.proofs.Counting.CountLaws.{other_job, job_once, job_past}
use Rattle.machine.proofs.Counting.Unanswered.{nothing_or_held}
use Rattle.machine.proofs.JobOrder.Order.{Held}
use Rattle.machine.proofs.JobOrder.OrderLaws.{written_job}
use Rattle.machine.proofs.JobOrder.AtHand.{AtJob, OnlyJobs, some_at_hand}
use Rattle.machine.proofs.JobOrder.StillRunning.{Lag, level, at_its_job, Lags, is_level, likewise, more_lag, fewer_lag, in_without}
use Rattle.machine.proofs.JobOrder.StillRunning.{without_in, without_none}
use Rattle.machine.proofs.TablesFollow.Follows.{setting_of, Answers, says_start, says_new, says_edge, says_release, says_transfer, says_job}
use Rattle.machine.proofs.TablesFollow.Follows.{says_stop, says_yield, Followed, refused, moved}
use Rattle.machine.proofs.TablesFollow.Tracked.{ran_snoc, Tracked, tracked_begun, answers_jobs, stepped_as, moved_tracked, moved_state, rows_lent}

-- ANSWERS AND MOVES

-- an accepted answer is no job, or the event is one
job_or_not :
    {S : State} {v : ℕ} {e : Event} {a : StepSaid} → Answers S v e a
    → (job_from v a ≡ []) ⊎ ((n : ℕ) × (o : ℕ) × (a ≡ said.job n o) × (e ≡ a_job o))
unfolding job_from
job_or_not says_start = inl refl
job_or_not says_new = inl refl
job_or_not (says_edge a b new) = inl refl
job_or_not (says_release m) = inl refl
job_or_not (says_transfer h) = inl refl
job_or_not (says_job {o} {n} at) = inr (n, o, refl, refl)
job_or_not says_stop = inl refl
job_or_not says_yield = inl refl

-- where the move of a job leads
performed :
    {S : State} {v o : ℕ} {e : Event} {S' : State} → Move S v e S' → e ≡ a_job o
    → (n : ℕ) × (r : Code) × (S.control v ≡ busy (job_at o n r) []) × (S' ≡ with_control S (put S.control v (busy r [])))
unfolding event_of
performed (begins at into) h = clash cc
performed {S} {v = v} {o} (performs {o = p} {n} {r} at) h =
    let same : p ≡ o = cc in
    (n, r, subst (λ (x : ℕ). S.control v ≡ busy (job_at x n r) []) same at, refl)
performed (stops at) h = clash cc
performed (makes at more) h = clash cc
performed (splits at last) h = clash cc
performed (acts {d = link a b} at) h = clash cc
performed (acts {d = hand m} at) h = clash cc
performed (acts {d = free m} at) h = clash cc
performed (acts {d = yield} at) h = clash cc

-- WHAT HOLDS IN A HISTORY

module _ (ed : Edition) (bytes : List ℕ) (t : Body) (s₀ : Lent) (r : reading ed bytes ≡ program t) (lends : Lends ed t s₀) where
  -- what is lent follows the state `now`, which a run of moves reached and in which these jobs are running; `before` is the same without them
  record Running (answers : List StepSaid) (s : Lent) (marks : List ℕ) (running : List Job) : Type 0 where
    now : Tracked ed bytes t s₀ answers s
    before : State
    events : List Event
    runs : Runs (beginning (located t) (setting_of ed bytes)) events before
    inv : Inv (located t) before
    control : ℕ → Control
    is_else : now.state ≡ with_control before control
    lags : Lags running before.control control
    -- a job of those moves was answered, and so was each running one
    earlier : (o : ℕ) → spent (job_count o) events ≤ ran_in o answers
    answered : (j : Job) → In j running → 1 ≤ ran_in j.offset answers
    -- a vertex is busy exactly if a job of it is running
    is_marked_busy : (v : ℕ) → HasJob v running → is_busy marks v ≡ true
    has_job : (v : ℕ) → is_busy marks v ≡ true → HasJob v running

  -- after loading
  running_begun :
      (marks : List ℕ) → is_loaded (load ed bytes s₀).answer ≡ true → ((v : ℕ) → is_busy marks v ≡ false)
      → Running [] (load ed bytes s₀).after marks []
  running_begun marks loads idle =
      let T = tracked_begun ed bytes t s₀ r loads in
      record {
        now = T;
        before = T.state;
        events = T.events;
        runs = T.runs;
        inv = T.inv;
        control = T.state.control;
        is_else = refl;
        lags = λ v. level (λ (j, i, e). in_none i) refl;
        earlier = λ o. omega (arith, T.jobs_are o);
        answered = λ j i. in_none i;
        is_marked_busy = λ v (j, i, e). in_none i;
        has_job = λ v h. true-false h (idle v);
      }

  module _ {answers : List StepSaid} {s : Lent} {marks : List ℕ} {running : List Job} (R : Running answers s marks running) where
    -- where it can move on before the running jobs, and has none itself, it can step
    free_now : (v : ℕ) → (HasJob v running → ⊥) → Free R.before v → can_step ed bytes s v ≡ true
    free_now v none f =
        free_follows R.now.inv.shape (there f) (stepped_as ed bytes t s₀ r lends R.now v)
      where
        same : {x : Control} → R.before.control v ≡ x → R.now.state.control v ≡ x
        same e = ap (λ (S : State). S.control v) R.is_else ∙ sym (is_level none (R.lags v)) ∙ e

        there : Free R.before v → Free R.now.state v
        there (at_code e) = at_code (same e)
        there (at_work e) = at_work (same e)
        there (unblocked e into) = unblocked (same e) (λ u. ap (λ (S : State). S.edge u v) R.is_else ∙ into u)

    -- where only busy vertices can step, whoever can move on there stands at a running job
    module _ (waits : (v : ℕ) → can_step ed bytes s v ≡ true → is_busy marks v ≡ true) where
      at_running :
          (v : ℕ) → Free R.before v
          → (j : Job) × (k : Code) × In j running × (R.before.control v ≡ busy (job_at j.offset j.number k) [])
      at_running v f = go (R.lags v)
        where
          go :
              Lag running v (R.before.control v) (R.control v)
              → (j : Job) × (k : Code) × In j running × (R.before.control v ≡ busy (job_at j.offset j.number k) [])
          go (level none e) = absurd (none (R.has_job v (waits v (free_now v none f))))
          go (at_its_job j k i q a b) = (j, k, i, a)

      only_jobs : OnlyJobs R.before
      only_jobs v f = let (j, k, i, at) = at_running v f in (j.offset, (j.number, k, at))

      -- so a job that was not answered has one ahead of it that is running
      ahead_running : (n o : ℕ) → Written t o n → ran_in o answers ≡ 0 → (j : Job) × In j running × Ahead (located t) j.offset o
      ahead_running n o w none_ran = go (nothing_or_held R.before o R.inv.shape)
        where
          at_hand : (v p : ℕ) → AtJob R.before v p → (j : Job) × In j running × (j.offset ≡ p)
          at_hand v p (m, k, at) = let (j, k', i, at') = at_running v (at_code at) in (j, i, cc)

          go : (total (job_count o) R.before ≡ 0) ⊎ ((u : ℕ) × Held R.before u o) → (j : Job) × In j running × Ahead (located t) j.offset o
          go (inl z) =
              absurd
              (omega
              (arith, none_ran, R.earlier o, job_past o (located t) (setting_of ed bytes) (laid_located t) (written_job t o n w) R.runs z))
          go (inr (u, h)) =
              let inv = R.inv in
              ⊎_elim
              (λ at.
              let (j, i, e) = at_hand u o at in
              absurd (omega (arith, none_ran, subst (λ (p : ℕ). 1 ≤ ran_in p answers) e (R.answered j i))))
              (λ (v, p, at, before).
              let (j, i, e) = at_hand v p at in
              (j, i, subst (λ (x : ℕ). Ahead (located t) x o) (sym e) (pre_ahead (located t) p o before)))
              (some_at_hand inv.shape only_jobs inv.ranks inv.ended inv.orders u o h)

    -- A STEP OF A DISPATCH

    -- of a vertex that is not busy, and so has no running job
    module _ (v : ℕ) (idle : is_busy marks v ≡ false) where
      no_job : HasJob v running → ⊥
      no_job h = true-false (R.is_marked_busy v h) idle

      -- one that answers no job could have been taken before the running ones
      quiet_step :
          {s' : Lent} {e : Event} {S' : State} (a : StepSaid) (T : Tracked ed bytes t s₀ (answers ++ (a ∷ [])) s') → T.state ≡ S'
          → Move R.now.state v e S' → ((o : ℕ) → answers_job o a ≡ job_count o e) → Running (answers ++ (a ∷ [])) s' marks running
      unfolding spent
      quiet_step {s'} {e} {S'} a T at m jobs =
          let L = likewise R.before R.control v R.lags no_job R.inv.shape (subst (λ (S : State). Move S v e S') R.is_else m) in
          record {
            now = T;
            before = L.before;
            events = e ∷ R.events;
            runs = and_then R.runs L.moves;
            inv = inv_kept (located t) (laid_located t) R.inv L.moves;
            control = L.control;
            is_else = at ∙ L.is_else;
            lags = L.lags;
            earlier = λ o. omega (arith, R.earlier o, jobs o, ran_snoc o answers a);
            answered = λ j i. omega (arith, R.answered j i, ran_snoc j.offset answers a);
            is_marked_busy = R.is_marked_busy;
            has_job = R.has_job;
          }

      -- one that answers a job is a running one more
      job_step :
          {s' : Lent} {S' : State} (a : StepSaid) (n o : ℕ) (k : Code) → answers_job o a ≡ 1
          → (T : Tracked ed bytes t s₀ (answers ++ (a ∷ [])) s') → T.state ≡ S' → R.now.state.control v ≡ busy (job_at o n k) []
          → S' ≡ with_control R.now.state (put R.now.state.control v (busy k [])) → v < length marks
          → Running (answers ++ (a ∷ [])) s' (marked_by marks (aJob v n o ∷ [])) (running ++ (aJob v n o ∷ []))
      job_step a n o k own T at stands leads lt =
          record {
            now = T;
            before = R.before;
            events = R.events;
            runs = R.runs;
            inv = R.inv;
            control = put R.control v (busy k []);
            is_else = at ∙ leads ∙ ap (λ (S : State). with_control S (put S.control v (busy k []))) R.is_else;
            lags =
                λ w.
                put_cases (Lag (running ++ js) w (R.before.control w)) R.control v (busy k []) w
                (λ e. at_its_job j k (in_right running here) (sym e) (ap R.before.control e ∙ stood) refl)
                (λ ne. more_lag js (λ (i, l, q). in_cases l (λ e. ne (sym q ∙ ap (λ (x : Job). x.vertex) e)) in_none) (R.lags w));
            earlier = λ p. omega (arith, R.earlier p, ran_snoc p answers a);
            answered =
                λ i l.
                ⊎_elim (λ m. omega (arith, R.answered i m, ran_snoc i.offset answers a))
                (λ m. subst (λ (x : Job). 1 ≤ ran_in x.offset (answers ++ (a ∷ []))) (sym (only m)) answered_now)
                (in_either running l);
            is_marked_busy =
                λ w (i, l, q).
                ⊎_elim (λ m. mark_stays marks js w (R.is_marked_busy w (i, m, q)))
                (λ m.
                subst (λ (u : ℕ). is_busy (marked_by marks js) u ≡ true) q
                (mark_set marks js i m (subst (λ (x : Job). x.vertex < length marks) (sym (only m)) lt)))
                (in_either running l);
            has_job =
                λ w h.
                ⊎_elim
                (λ same.
                let (i, l, q) = R.has_job w (subst (λ (x : ℕ). not (eqb x 0) ≡ true) same h) in
                (i, in_left js l, q))
                (λ (one, (i, l, q)). (i, in_right running l, q))
                (mark_cases marks js w);
          }
        where
          j : Job
          j = aJob v n o

          js : List Job
          js = j ∷ []

          only : {i : Job} → In i js → i ≡ j
          only l = in_cases l (λ e. e) in_none

          -- where it stood
          stood : R.before.control v ≡ busy (job_at o n k) []
          stood = is_level no_job (R.lags v) ∙ sym (ap (λ (S : State). S.control v) R.is_else) ∙ stands

          answered_now : 1 ≤ ran_in o (answers ++ (a ∷ []))
          answered_now = omega (arith, ran_snoc o answers a, own)

      -- so either
      as_it_was : {all : List StepSaid} {s' : Lent} → Running all s' marks running → Running all s' (marked_by marks []) (running ++ [])
      unfolding marked_by
      as_it_was {all} {s'} R' = subst (λ (js : List Job). Running all s' marks js) (sym (append-nil running)) R'

      after_move :
          {s' : Lent} {e : Event} {S' : State} (a : StepSaid) (T : Tracked ed bytes t s₀ (answers ++ (a ∷ [])) s') → T.state ≡ S'
          → Move R.now.state v e S' → Answers R.now.state v e a → v < length marks
          → Running (answers ++ (a ∷ [])) s' (marked_by marks (job_from v a)) (running ++ job_from v a)
      unfolding job_from
      after_move {s'} {e} a T at m says lt = ⊎_elim (λ quiet. with_jobs quiet (as_it_was (quiet_step a T at m (answers_jobs says)))) loud (job_or_not says)
        where
          with_jobs :
              {js : List Job} → job_from v a ≡ js → Running (answers ++ (a ∷ [])) s' (marked_by marks js) (running ++ js)
              → Running (answers ++ (a ∷ [])) s' (marked_by marks (job_from v a)) (running ++ job_from v a)
          with_jobs e R' =
              subst (λ (js : List Job). Running (answers ++ (a ∷ [])) s' (marked_by marks js) (running ++ js)) (sym e) R'

          loud :
              (n : ℕ) × (o : ℕ) × (a ≡ said.job n o) × (e ≡ a_job o)
              → Running (answers ++ (a ∷ [])) s' (marked_by marks (job_from v a)) (running ++ job_from v a)
          loud (n, o, is_job, event) =
              let (k, stands) = answers_at says is_job in
              let (n', k', stands', leads) = performed m event in
              let same : k' ≡ k = cc in
              with_jobs (ap (job_from v) is_job)
              (job_step a n o k (ap (answers_job o) is_job ∙ answers_own n o) T at stands
              (leads ∙ ap (λ (x : Code). with_control R.now.state (put R.now.state.control v (busy x []))) same)
              lt)

      step_running :
          can_step ed bytes s v ≡ true → v < length marks
          → Running (answers ++ ((step ed bytes s v).answer ∷ [])) (step ed bytes s v).after (marked_by marks (job_from v (step ed bytes s v).answer))
          (running ++ job_from v (step ed bytes s v).answer)
      step_running can lt =
          go (step ed bytes s v) can (step_true ed bytes s v R.now.counts_true) (stepped_as ed bytes t s₀ r lends R.now v)
        where
          go :
              (x : Outcome StepSaid) → accepted x.answer ≡ true → CountsTrue x.after
              → Followed (located t) (setting_of ed bytes) s R.now.state v x
              → Running (answers ++ (x.answer ∷ [])) x.after (marked_by marks (job_from v x.answer)) (running ++ job_from v x.answer)
          go x h true_after (refused n why e) = true-false h (ap (λ (y : Outcome StepSaid). accepted y.answer) e)
          go x h true_after (moved e S' m f says tally) =
              after_move x.answer (moved_tracked ed bytes t s₀ r lends R.now v m f true_after says tally)
              (moved_state ed bytes t s₀ r lends R.now v m f true_after says tally)
              m says lt

  -- A DISPATCH

  -- no step
  none_running :
      {answers : List StepSaid} {s : Lent} {marks : List ℕ} {running : List Job} → Running answers s marks running
      → Running (answers ++ answers_along []) s marks (running ++ jobs_among [])
  unfolding answers_along jobs_among
  none_running {answers} {s} {marks} {running} R =
      subst (λ (l : List StepSaid). Running l s marks (running ++ [])) (sym (append-nil answers))
      (subst (λ (js : List Job). Running answers s marks js) (sym (append-nil running)) R)

  -- its steps
  steps_running :
      {answers : List StepSaid} {s s' : Lent} {d d' : Desk} {running : List Job} {steps : List (ℕ × StepSaid)} → FreeSteps ed bytes s d steps s' d'
      → Running answers s (marks_of d) running → vertex_rows s₀.vertices ≤ length (marks_of d)
      → Running (answers ++ answers_along steps) s' (marks_of d') (running ++ jobs_among steps)
  unfolding answers_along jobs_among
  steps_running no_turn R enough = none_running R
  steps_running {answers} {s} {s'} {d} {d'} {running} (turn {steps = steps} v low row more) R enough =
      let a = (step ed bytes s v).answer in
      let marks_are = (handed_answer v a d).marks in
      let lt : v < length (marks_of d) = omega (arith, enough, (can_ready ed bytes s v low.can).0, rows_same R) in
      let one = step_running R v low.not_busy low.can lt in
      let one' = subst (λ (m : List ℕ). Running (answers ++ (a ∷ [])) (step ed bytes s v).after m (running ++ job_from v a)) (sym marks_are) one in
      let enough' : vertex_rows s₀.vertices ≤ length (marks_of (hand_out v a d)) =
      omega (arith, enough, ap (λ (m : List ℕ). length m) marks_are, marked_length (marks_of d) (job_from v a))
      in
      subst (λ (l : List StepSaid). Running l s' (marks_of d') (running ++ (job_from v a ++ jobs_among steps)))
      (append_assoc answers (a ∷ []) (answers_along steps))
      (subst (λ (js : List Job). Running ((answers ++ (a ∷ [])) ++ answers_along steps) s' (marks_of d') js)
      (append_assoc running (job_from v a) (jobs_among steps))
      (steps_running {answers = answers ++ (a ∷ [])} {running = running ++ job_from v a} more one' enough'))
    where
      -- the made vertices have rows among those that were lent at loading
      rows_same : Running answers s (marks_of d) running → s.made ≤ vertex_rows s₀.vertices
      rows_same R =
          subst (λ (n : ℕ). s.made ≤ min usable_limit (n / vertex_words)) R.now.vertex_length (sound_fits s R.now.follows.sound_is).vertices_fit

  -- and all of it
  dispatch_running :
      {answers : List StepSaid} {s : Lent} {marks list : List ℕ} {budget : ℕ} {running : List Job} {steps : List (ℕ × StepSaid)}
      {o : dispatching.Outcome} → Running answers s marks running → OnlyFreeSteps ed bytes s marks list budget steps o
      → Running (answers ++ answers_along steps) o.after (marks_of o.handed_out) (running ++ jobs_among steps)
  dispatch_running R (tables_refused h empty e) = rw (empty, e) (none_running R)
  dispatch_running R (marks_refused h short empty e) = rw (empty, e) (none_running R)
  dispatch_running {marks = marks} R (takes_free_steps h enough steps number le looks counted) =
      steps_running steps R (subst (λ (n : ℕ). min usable_limit (n / vertex_words) ≤ length marks) R.now.vertex_length enough)

  -- A MARK CLEARED

  module _ {answers : List StepSaid} {s : Lent} {marks : List ℕ} {running : List Job} (R : Running answers s marks running) (v : ℕ) where
    -- the vertex is not busy, and the others are what they were
    cleared_at : get_or (set marks v 0) v 0 ≡ 0
    cleared_at =
        ⊎_elim (λ lt. get_or-set_same marks v 0 0 lt)
        (λ ge. ap (λ (l : List ℕ). get_or l v 0) (set_out marks v 0 ge) ∙ get_or-eq_default marks 0 ge)
        (below? v (length marks))

    still_busy : (w : ℕ) → (w ≡ v → ⊥) → is_busy (set marks v 0) w ≡ is_busy marks w
    still_busy w other = ap (λ (x : ℕ). not (eqb x 0)) (get_or-set_other marks v w 0 0 other)

    -- where that state has come to, if it did
    cleared :
        (B : State) (es : List Event) → Runs (beginning (located t) (setting_of ed bytes)) es B → Inv (located t) B
        → R.now.state ≡ with_control B R.control → Lags (without v running) B.control R.control
        → ((o : ℕ) → spent (job_count o) es ≤ ran_in o answers) → Running answers s (set marks v 0) (without v running)
    cleared B es runs inv is_else lags earlier =
        record {
          now = R.now;
          before = B;
          events = es;
          runs = runs;
          inv = inv;
          control = R.control;
          is_else = is_else;
          lags = lags;
          earlier = earlier;
          answered = λ j i. R.answered j (without_in v running i).0;
          is_marked_busy =
              λ w (j, i, q).
              let (l, other) = without_in v running i in
              still_busy w (λ e. other (q ∙ e)) ∙ R.is_marked_busy w (j, l, q);
          has_job =
              λ w h.
              ⊎_elim
              (λ e. true-false h (ap (is_busy (set marks v 0)) e ∙ ap (λ (x : ℕ). not (eqb x 0)) cleared_at))
              (λ other.
              let (j, i, q) = R.has_job w (sym (still_busy w other) ∙ h) in
              (j, in_without v running i (λ e. other (sym q ∙ e)), q))
              (equal? w v);
        }

    -- a running job may be answered in that state, for the first time
    first_time :
        (j : Job) → In j running → (o : ℕ) {B : State} → Runs (beginning (located t) (setting_of ed bytes)) (a_job j.offset ∷ R.events) B
        → spent (job_count o) (a_job j.offset ∷ R.events) ≤ ran_in o answers
    unfolding spent
    first_time j i o runs =
        ⊎_elim
        (λ e.
        let ran : 1 ≤ ran_in o answers = subst (λ (p : ℕ). 1 ≤ ran_in p answers) e (R.answered j i) in
        omega (arith, ran, job_once o (located t) (setting_of ed bytes) (laid_located t) runs))
        (λ ne. omega (arith, other_job j.offset o ne, R.earlier o))
        (equal? j.offset o)

    -- the vertex has no running job, or its job is then the last of the moves
    clear_running : Running answers s (set marks v 0) (without v running)
    clear_running = go (R.lags v)
      where
        go : Lag running v (R.before.control v) (R.control v) → Running answers s (set marks v 0) (without v running)
        go (level none e) =
            cleared R.before R.events R.runs R.inv R.is_else
            (λ w.
            ⊎_elim
            (λ q.
            level (λ h. without_none v running (subst (λ (u : ℕ). HasJob u (without v running)) q h))
            (subst (λ (u : ℕ). R.before.control u ≡ R.control u) (sym q) e))
            (λ other. fewer_lag v other (R.lags w))
            (equal? w v))
            R.earlier
        go (at_its_job j k i q a b) =
            let m = performs a in
            cleared (with_control R.before (put R.before.control v (busy k []))) (a_job j.offset ∷ R.events) (and_then R.runs m)
            (inv_kept (located t) (laid_located t) R.inv m)
            R.is_else
            (λ w.
            put_cases (λ x. Lag (without v running) w x (R.control w)) R.before.control v (busy k []) w
            (λ e.
            level (λ h. without_none v running (subst (λ (u : ℕ). HasJob u (without v running)) e h))
            (sym (ap R.control e ∙ b)))
            (λ other. fewer_lag v other (R.lags w)))
            (λ o. first_time j i o (and_then R.runs m))

-- THE HISTORY

-- What is lent in a history is reached by its steps, so all of demand 3 holds of it.
pub hosted_reached :
    {ed : Edition} {bytes : List ℕ} {s₀ : Lent} {answers : List StepSaid} {s : Lent} {marks : List ℕ} {running : List Job}
    → Hosted ed bytes s₀ answers s marks running → Reached ed bytes s₀ answers s
hosted_reached (load_first marks loads idle) = begun loads
hosted_reached {ed} {bytes} {s₀} (then_dispatch {s = s} {marks} list budget h) =
    dispatch_reached ed bytes s₀ s marks list budget (hosted_reached h)
hosted_reached (then_clear v h) = hosted_reached h

hosted_running :
    (ed : Edition) (bytes : List ℕ) (t : Body) (s₀ : Lent) (r : reading ed bytes ≡ program t) (lends : Lends ed t s₀)
    {answers : List StepSaid} {s : Lent} {marks : List ℕ} {running : List Job}
    → Hosted ed bytes s₀ answers s marks running → Running ed bytes t s₀ r lends answers s marks running
hosted_running ed bytes t s₀ r lends (load_first marks loads idle) = running_begun ed bytes t s₀ r lends marks loads idle
hosted_running ed bytes t s₀ r lends (then_dispatch {s = s} {marks} list budget h) =
    dispatch_running ed bytes t s₀ r lends (hosted_running ed bytes t s₀ r lends h) (dispatch_ran ed bytes s marks list budget)
hosted_running ed bytes t s₀ r lends (then_clear v h) = clear_running ed bytes t s₀ r lends (hosted_running ed bytes t s₀ r lends h) v

-- A dispatch of a history that ends waiting: what is running then, and that only vertices of running jobs can step.
module _
    (ed : Edition) (bytes : List ℕ) (t : Body) {s₀ : Lent} {answers : List StepSaid} {s : Lent} {marks : List ℕ} {running : List Job}
    (r : reading ed bytes ≡ program t) (h : Hosted ed bytes s₀ answers s marks running) (list : List ℕ) (budget : ℕ)
    (waits : (dispatch ed bytes s marks list budget).ending ≡ waiting)
  where
    abbrev left : dispatching.Outcome
    left = dispatch ed bytes s marks list budget

    lends : Lends ed t s₀
    lends = rows_lent ed bytes t r (hosted_reached h)

    looks : DispatchLooks ed bytes budget left.taken left.after left.handed_out waiting
    looks =
        subst (λ (e : dispatching.Ending). DispatchLooks ed bytes budget left.taken left.after left.handed_out e) waits
        (dispatch_looks ed bytes s marks list budget (λ n p e. let z : waiting ≡ dispatching.refused n p = sym waits ∙ e in clash cc))

    there :
        Running ed bytes t s₀ r lends (answers ++ dispatch_answers ed bytes s marks list budget) left.after (marks_of left.handed_out)
        (running ++ jobs_among (dispatch_steps ed bytes s marks list budget))
    there = hosted_running ed bytes t s₀ r lends (then_dispatch list budget h)

    -- It waits only where a job is running.
    pub waits_for_one : (j : Job) × In j (running ++ jobs_among (dispatch_steps ed bytes s marks list budget))
    waits_for_one = let (v, can) = looks.1 in let (j, i, e) = there.has_job v (looks.2 v can) in (j, i)

    -- Nothing waits needlessly: each written job that was not handed out so far has a job ahead of it that is still running.
    pub nothing_waits_needlessly :
        (n o : ℕ) → Written t o n → ran_in o (answers ++ dispatch_answers ed bytes s marks list budget) ≡ 0
        → (j : Job) × In j (running ++ jobs_among (dispatch_steps ed bytes s marks list budget)) × Ahead (located t) j.offset o
    nothing_waits_needlessly = ahead_running ed bytes t s₀ r lends there looks.2
