-- Note 7: a list of a program's jobs is the order in which some list of steps, ended at the full count, answers them exactly if it is fair.
--
--     fair_orders       so it is, from every accepted loading, in either edition
--     schedule_answers  the steps of its schedule answer the jobs of a fair order in that order
--     onward_answers    so do those from whatever was reached, for each fair order that begins with the jobs answered so far: no step was a
--                       wrong turn
--     nothing_waits     where jobs are all that can be stepped next, a job of which all that are ahead were answered is one of them
--     trace_fair        a trace of an engine that ends at the full count answers the jobs in a fair order
--     trace_in_order    one whose calls are the steps of a fair order's schedule answers them in that order
--
-- From left to right it is demand 3. From right to left the schedule takes steps that are no jobs until there is none; then jobs are all that can
-- be stepped next, and the next job of a fair order is one of them (`at_hand`). The full count ends it.
use Prim.Native.Nat.{ℕ, zero, suc, ◌+◌, ◌<◌, ◌≤◌}
use mathlib.Core.Path.{◌≡◌, refl, sym, ◌∙◌, ap, subst}
use mathlib.Core.Bool.{true, false, cond}
use mathlib.Core.Logic.{◌⊎◌, inl, inr}
use mathlib.Core.List.{List, [], ◌∷◌, ◌++◌, append_assoc}
use mathlib.Core.Option.{Option, none, some}
use native.Mathlib.Omega.{arith}
use borrow.Author.Tests.{eq-eqb}
use Rattle.graph.specs.Tests.{both, lowest_below}
use Rattle.graph.specs.Tables.{Lent}
use Rattle.graph.specs.Answers.{Outcome}
use Rattle.graph.proofs.TestLaws.{true-false}
use Rattle.graph.proofs.LowestLaws.{Finds, below_finds}
use Rattle.program.specs.Trees.{Body, counts}
use Rattle.program.specs.declared.Edition.{Edition}
use Rattle.program.specs.Encodings.{step_formula}
use Rattle.program.specs.Reader.{reading, program}
use Rattle.program.specs.Located.{located, start_of}
use Rattle.program.proofs.LocatedLaws.{laid_located}
use Rattle.machine.specs.Answers.{StepSaid, accepted, is_loaded}
use Rattle.machine.specs.Ahead.{Ahead}
use Rattle.machine.specs.Loading.{load}
use Rattle.machine.specs.Stepping.{step}
use Rattle.machine.specs.Reached.{Reached, begun, stepped, AllAccepted, Call, call_answers, call_leaves, answers_of, leaves_of}
use Rattle.machine.specs.Demand3.{accepted_in, answers_job, ran_in, Written}
use Rattle.machine.specs.Traces.{Trace}
use Rattle.machine.specs.FairOrders.{job_named, jobs_of, Happens, times_in, Fair, lowest_with, is_no_job, is_job_at, naming, naming_job, schedule}
use Rattle.machine.specs.FairOrders.{steps_of, AnswersIn, FairOrders, InFairOrder}
use Rattle.machine.proofs.JobsAnswered.{IsJob, times_append, times_here, times_other, times_ran, jobs_snoc, answers_own, answered_last, none_in}
use Rattle.machine.proofs.JobsAnswered.{times_answered, NamedBehind, named_behind, jobs_split, no_job_is, job_at_is, job_of}
use Rattle.machine.proofs.AheadIsPre.{pre_ahead}
use Rattle.machine.proofs.AheadUnique.{apart_order, pre_apart}
use Rattle.machine.proofs.Calls.{calls_reached}
use Rattle.machine.proofs.StepDemand2.{can_ready}
use Rattle.machine.proofs.Demand3.{free_steps, some_step, at_most_once, runs_once, demand3, reached_program}
use Rattle.machine.proofs.Traces.{trace_loaded, trace_reached, trace_answers}
use Rattle.machine.proofs.GhostMachine.Ghost.{State, Event}
use Rattle.machine.proofs.GhostMachine.Progress.{at_code}
use Rattle.machine.proofs.GhostMachine.GhostLaws.{clash, below}
use Rattle.machine.proofs.Counting.CountLaws.{jobs_one, job_past, job_gone}
use Rattle.machine.proofs.Counting.Weights.{total, job_count}
use Rattle.machine.proofs.Counting.Unanswered.{nothing_or_held}
use Rattle.machine.proofs.JobOrder.Order.{Held, Pre}
use Rattle.machine.proofs.JobOrder.OrderLaws.{code_job, written_job, job_written}
use Rattle.machine.proofs.JobOrder.WaitLaws.{holds_code, held_laid, over-holds}
use Rattle.machine.proofs.JobOrder.AtHand.{AtJob, OnlyJobs, held_left, at_hand}
use Rattle.machine.proofs.TablesFollow.Follows.{setting_of, Answers, says_start, says_new, says_edge, says_release, says_transfer, says_job}
use Rattle.machine.proofs.TablesFollow.Follows.{says_stop, says_yield, Followed, refused, moved}
use Rattle.machine.proofs.TablesFollow.Tracked.{accepted_snoc, ran_snoc, Tracked, opens_located, stepped_as, rows_lent, tracked}

-- FROM LEFT TO RIGHT

-- At the full count the jobs were answered in a fair order.
full_fair :
    (ed : Edition) (bytes : List ℕ) (t : Body) {s₀ : Lent} {answers : List StepSaid} {s : Lent} → reading ed bytes ≡ program t
    → Reached ed bytes s₀ answers s → accepted_in answers ≡ step_formula ed (counts t) → Fair t (jobs_of answers)
full_fair ed bytes t {s₀} {answers} {s} r q full =
    let D = demand3 ed bytes t r q in
    record {
      only_jobs = λ o some. let (n, i) = times_answered o answers some in (n, D.only_written n o i);
      each_once = λ n o w. times_ran o answers ∙ D.all_run full n o w;
      none_early =
          λ before behind p o e h.
          once_before p o before behind (named_before p o before h (jobs_split answers before behind o e))
          (omega (arith, D.once p, times_ran p answers, ap (times_in p) e));
    }
  where
    -- what is ahead of a job stands before it
    named_before : (p o : ℕ) (before : List ℕ) → Ahead (located t) p o → NamedBehind answers before o → times_in p before ≡ 1
    named_before p o before h (named_behind B A n is jobs) =
        ap (times_in p) (sym jobs) ∙ times_ran p B ∙ (demand3 ed bytes t r q).in_order B A n o p is h

    -- and so not behind it
    once_before : (p o : ℕ) (before behind : List ℕ) → times_in p before ≡ 1 → times_in p (before ++ (o ∷ behind)) ≤ 1 → times_in p behind ≡ 0
    once_before p o before behind one le = unfold times_in in omega (arith, times_append p before (o ∷ behind), one, le)

-- FROM RIGHT TO LEFT

-- a step that is accepted and is not no job is one, at which its vertex stands
said_job :
    {S : State} {v : ℕ} {e : Event} {a : StepSaid} → Answers S v e a → is_no_job a ≡ false → (o : ℕ) × AtJob S v o × (is_job_at o a ≡ true)
unfolding is_no_job is_job_at both job_named answers_job
said_job says_start h = clash h
said_job says_new h = clash h
said_job (says_edge a b new) h = clash h
said_job (says_release m) h = clash h
said_job (says_transfer m) h = clash h
said_job (says_job {o} {n} {r} at) h = (o, (n, r, at), rw (eq-eqb o o refl) refl)
said_job says_stop h = clash h
said_job says_yield h = clash h

-- every step that is accepted is a job
abbrev JobsOnly : Edition → List ℕ → Lent → Type 0
JobsOnly ed bytes s = (v : ℕ) → v < s.made → is_no_job (step ed bytes s v).answer ≡ false

-- What was reached, where that is so.
module _ (ed : Edition) (bytes : List ℕ) (t : Body) {s₀ : Lent} {answers : List StepSaid} {s : Lent} (r : reading ed bytes ≡ program t)
    (q : Reached ed bytes s₀ answers s) (jobs_only : JobsOnly ed bytes s)
  where
    abbrev T : Tracked ed bytes t s₀ answers s
    T = tracked ed bytes t r q

    -- a vertex whose step is accepted stands at a job, which the step answers
    at_job : (v : ℕ) → accepted (step ed bytes s v).answer ≡ true → (o : ℕ) × AtJob T.state v o × (is_job_at o (step ed bytes s v).answer ≡ true)
    at_job v taken =
        go (step ed bytes s v) taken (jobs_only v (can_ready ed bytes s v taken).0)
        (stepped_as ed bytes t s₀ r (rows_lent ed bytes t r q) T v)
      where
        go :
            (x : Outcome StepSaid) → accepted x.answer ≡ true → is_no_job x.answer ≡ false
            → Followed (located t) (setting_of ed bytes) s T.state v x → (o : ℕ) × AtJob T.state v o × (is_job_at o x.answer ≡ true)
        go x h job (refused n why e) = true-false h (ap (λ (y : Outcome StepSaid). accepted y.answer) e)
        go x h job (moved e S' m follows says tally) = said_job says job

    only_jobs : OnlyJobs T.state
    only_jobs v free = let (o, at, job) = at_job v (free_steps ed bytes t r q v free) in (o, at)

    -- a job that was answered is held by no vertex
    not_held : (w p : ℕ) → ran_in p answers ≡ 1 → Held T.state w p → ⊥
    not_held w p ran (Held.held c h j) =
        let inv = T.inv in
        let lt = below inv.shape w (λ z. over-holds z h) in
        let gone = job_gone p (located t) (setting_of ed bytes) (laid_located t) T.runs (sym (T.jobs_are p) ∙ ran) w lt in
        let code = held_left inv.shape only_jobs p w (T.state.control w) c refl h in
        absurd (omega (arith, gone, code, jobs_one T.state.setting.edition p c (held_laid (located t) T.state w (laid_located t) inv.coded h) j))

    -- a job that a vertex holds is written
    held_written : (w p : ℕ) → Held T.state w p → (m : ℕ) × Written t p m
    held_written w p (Held.held c h j) =
        job_written t p (code_job (located t) (start_of c) p (T.inv.coded w c (holds_code (T.state.control w) h).0) j)

    -- Nothing waits needlessly: a job of which all others that are ahead were answered is one of those that can be stepped.
    pub nothing_waits :
        (n o : ℕ) → Written t o n → ran_in o answers ≡ 0
        → ((m p : ℕ) → Written t p m → (p ≡ o → ⊥) → Ahead (located t) p o → ran_in p answers ≡ 1)
        → (v : ℕ) × (v < s.made) × (is_job_at o (step ed bytes s v).answer ≡ true)
    nothing_waits n o w none_ran ahead_ran = go (nothing_or_held T.state o T.inv.shape)
      where
        standing : (u : ℕ) → AtJob T.state u o → (v : ℕ) × (v < s.made) × (is_job_at o (step ed bytes s v).answer ≡ true)
        standing u (m, k, at) =
            let taken = free_steps ed bytes t r q u (at_code at) in
            let (p, (m', k', at'), job) = at_job u taken in
            let same : p ≡ o = cc in
            (u, (can_ready ed bytes s u taken).0, subst (λ (x : ℕ). is_job_at x (step ed bytes s u).answer ≡ true) same job)

        -- none is ahead of itself
        not_itself : (p : ℕ) → Pre (located t) p o → p ≡ o → ⊥
        not_itself p before e =
            let before' : Pre (located t) o o = subst (λ (y : ℕ). Pre (located t) y o) e before in
            let (c, ks, a) = pre_apart (located t) o o (opens_located ed bytes t r) before' in
            apart_order t o o a a

        go :
            (total (job_count o) T.state ≡ 0) ⊎ ((u : ℕ) × Held T.state u o)
            → (v : ℕ) × (v < s.made) × (is_job_at o (step ed bytes s v).answer ≡ true)
        go (inl z) =
            absurd
            (omega
            (arith, none_ran, T.jobs_are o, job_past o (located t) (setting_of ed bytes) (laid_located t) (written_job t o n w) T.runs z))
        go (inr (u, h)) =
            let inv = T.inv in
            standing u
            (at_hand inv.shape only_jobs inv.ranks inv.ended inv.orders u o h
            (λ x p k before.
            let (m, wp) = held_written x p k in
            not_held x p (ahead_ran m p wp (not_itself p before) (pre_ahead (located t) p o before)) k))

-- no step, and one in front
answers_none : AnswersIn [] 0 []
unfolding AllAccepted accepted_in jobs_of
answers_none = record { all_accepted = tt; their_number = refl; in_this_order = refl }

answers_more :
    {order : List ℕ} {count : ℕ} {answers : List StepSaid} (a : StepSaid) (named : List ℕ) → accepted a ≡ true → job_named a ≡ named
    → AnswersIn order count answers → AnswersIn (named ++ order) (suc count) (a ∷ answers)
unfolding AllAccepted accepted_in jobs_of
answers_more {order} {count} {answers} a named h e x =
    record {
      all_accepted = (h, x.all_accepted);
      their_number = rw h (omega (arith, x.their_number));
      in_this_order = ap (λ (l : List ℕ). l ++ jobs_of answers) e ∙ ap (λ (l : List ℕ). named ++ l) x.in_this_order;
    }

-- From the loading onto s₀ on, for a fair order.
module _ (ed : Edition) (bytes : List ℕ) (t : Body) (s₀ : Lent) (r : reading ed bytes ≡ program t) (order : List ℕ) (fair : Fair t order) where
  -- so many steps, and these jobs of the order, are left behind these answers
  pub record Left (answers : List StepSaid) (left : ℕ) (rest : List ℕ) : Type 0 where
    pub steps_left : accepted_in answers + left ≡ step_formula ed (counts t)
    pub jobs_left : order ≡ jobs_of answers ++ rest

  -- behind one answer more, which names these jobs
  left_more :
      {answers : List StepSaid} {left : ℕ} {rest : List ℕ} (a : StepSaid) (named : List ℕ) → accepted a ≡ true → job_named a ≡ named
      → Left answers (suc left) (named ++ rest) → Left (answers ++ (a ∷ [])) left rest
  left_more {answers} {left} {rest} a named h e x =
      record {
        steps_left = counted (accepted_snoc answers a);
        jobs_left =
            x.jobs_left ∙ sym (append_assoc (jobs_of answers) named rest)
            ∙ ap (λ (l : List ℕ). (jobs_of answers ++ l) ++ rest) (sym e)
            ∙ ap (λ (l : List ℕ). l ++ rest) (sym (jobs_snoc answers a));
      }
    where
      counted : accepted_in (answers ++ (a ∷ [])) ≡ accepted_in answers + cond (accepted a) 1 0 → accepted_in (answers ++ (a ∷ [])) + left ≡ step_formula ed (counts t)
      counted c = let c' : accepted_in (answers ++ (a ∷ [])) ≡ accepted_in answers + 1 = rw h at c in omega (arith, c', x.steps_left)

  -- a job of the order was answered, or is left
  answered_or_left :
      {answers : List StepSaid} {left : ℕ} {rest : List ℕ} → Left answers left rest → (o : ℕ)
      → times_in o order ≡ ran_in o answers + times_in o rest
  answered_or_left {answers} {rest = rest} x o =
      ap (times_in o) x.jobs_left ∙ times_append o (jobs_of answers) rest ∙ ap (λ (n : ℕ). n + times_in o rest) (times_ran o answers)

  -- the next of those that are left was not answered yet
  next_written : {answers : List StepSaid} {left o : ℕ} {rest : List ℕ} → Left answers left (o ∷ rest) → (n : ℕ) × Written t o n × (ran_in o answers ≡ 0)
  next_written {answers} {left} {o} {rest} x =
      let all : times_in o order ≡ ran_in o answers + times_in o (o ∷ rest) = answered_or_left x o in
      let here : times_in o (o ∷ rest) ≡ suc (times_in o rest) = times_here o rest in
      let (n, w) = fair.only_jobs o (omega (arith, all, here)) in
      (n, w, omega (arith, all, here, fair.each_once n o w))

  -- but the others that are ahead of it were
  ahead_ran :
      {answers : List StepSaid} {left o : ℕ} {rest : List ℕ} → Left answers left (o ∷ rest) → (m p : ℕ) → Written t p m → (p ≡ o → ⊥)
      → Ahead (located t) p o → ran_in p answers ≡ 1
  ahead_ran {answers} {left} {o} {rest} x m p w other h =
      let none_behind = fair.none_early (jobs_of answers) rest p o x.jobs_left h in
      omega (arith, fair.each_once m p w, answered_or_left x p, none_behind, times_other p o rest (λ e. other (sym e)))

  -- At the full count no job is left,
  none_at_end : {answers : List StepSaid} {s : Lent} (rest : List ℕ) → Reached ed bytes s₀ answers s → Left answers 0 rest → rest ≡ []
  none_at_end [] q x = refl
  none_at_end (o ∷ rest) q x =
      let (n, w, none_ran) = next_written x in
      absurd (omega (arith, none_ran, runs_once ed bytes t r q n o w (omega (arith, x.steps_left))))

  -- and before it, where every step that is accepted is a job, one is.
  some_before :
      {answers : List StepSaid} {s : Lent} {left : ℕ} → Reached ed bytes s₀ answers s → JobsOnly ed bytes s → Left answers (suc left) [] → ⊥
  some_before {answers} {s} {left} q jobs_only x =
      let (v, taken) = some_step ed bytes t r q (omega (arith, x.steps_left)) in
      go v (job_of (step ed bytes s v).answer taken (jobs_only v (can_ready ed bytes s v taken).0))
    where
      go : (v : ℕ) → IsJob (step ed bytes s v).answer → ⊥
      go v (n, o, e) =
          let w = (tracked ed bytes t r (stepped q v)).only_written n o (rw (← e) (answered_last answers _)) in
          let twice = at_most_once ed bytes t r (stepped q v) o in
          let more = ran_snoc o answers (step ed bytes s v).answer in
          omega (arith, twice, more, ap (answers_job o) e, answers_own n o, fair.each_once n o w, answered_or_left x o, none_in o)

  -- A row of steps by `again` from whatever is reached, where so many are left.
  abbrev Onward : (Lent → List ℕ → List ℕ) → ℕ → Type 0
  Onward again left =
      (answers : List StepSaid) (s : Lent) (rest : List ℕ) → Reached ed bytes s₀ answers s → Left answers left rest
      → AnswersIn rest left (answers_of ed bytes s (steps_of (again s rest)))

  module _ (again : Lent → List ℕ → List ℕ) (left : ℕ) (on : Onward again left) {answers : List StepSaid} {s : Lent} (q : Reached ed bytes s₀ answers s) where
    -- a step of v first
    stepping :
        (v : ℕ) (named rest : List ℕ) → accepted (step ed bytes s v).answer ≡ true → job_named (step ed bytes s v).answer ≡ named
        → Left answers (suc left) (named ++ rest)
        → AnswersIn (named ++ rest) (suc left) (answers_of ed bytes s (steps_of (v ∷ again (step ed bytes s v).after rest)))
    unfolding answers_of call_answers call_leaves
    stepping v named rest h e x =
        answers_more (step ed bytes s v).answer named h e
        (on _ _ rest (stepped q v) (left_more (step ed bytes s v).answer named h e x))

    -- one that is the next job
    job_next :
        JobsOnly ed bytes s → (rest : List ℕ) → Left answers (suc left) rest
        → AnswersIn rest (suc left) (answers_of ed bytes s (steps_of (naming_job ed bytes again s rest)))
    unfolding naming_job naming lowest_with
    job_next jobs_only [] x = absurd (some_before q jobs_only x)
    job_next jobs_only (o ∷ rest) x = go (lowest_below _ s.made) (below_finds _ s.made)
      where
        go :
            (y : Option ℕ) → Finds (λ v. is_job_at o (step ed bytes s v).answer) s.made y
            → AnswersIn (o ∷ rest) (suc left) (answers_of ed bytes s (steps_of (naming ed bytes again s rest y [])))
        go (some v) (f, lower) = let (h, e) = job_at_is o (step ed bytes s v).answer f in unfold naming in stepping v (o ∷ []) rest h e x
        go none f =
            let (n, w, none_ran) = next_written x in
            let (v, lt, h) = nothing_waits ed bytes t r q jobs_only n o w none_ran (ahead_ran x) in
            true-false h (f v lt)

    -- or one that is no job, if there is one
    next :
        (rest : List ℕ) → Left answers (suc left) rest → (y : Option ℕ) → Finds (λ v. is_no_job (step ed bytes s v).answer) s.made y
        → AnswersIn rest (suc left) (answers_of ed bytes s (steps_of (naming ed bytes again s rest y (naming_job ed bytes again s rest))))
    unfolding naming
    next rest x (some v) (f, lower) = let (h, e) = no_job_is (step ed bytes s v).answer f in stepping v [] rest h e x
    next rest x none f = job_next f rest x

  -- So the schedule's steps take all that are left.
  schedule_takes : (left : ℕ) → Onward (schedule ed bytes left) left
  unfolding schedule lowest_with answers_of
  schedule_takes zero answers s rest q x = rw (none_at_end rest q x) answers_none
  schedule_takes (suc left) answers s rest q x =
      next (schedule ed bytes left) left (schedule_takes left) q rest x (lowest_below _ s.made) (below_finds _ s.made)

-- From whatever was reached, the steps of a schedule answer the jobs that are left of a fair order which begins with those answered so far.
pub onward_answers :
    (ed : Edition) (bytes : List ℕ) (t : Body) {s₀ : Lent} {answers : List StepSaid} {s : Lent} → reading ed bytes ≡ program t
    → Reached ed bytes s₀ answers s → (left : ℕ) → accepted_in answers + left ≡ step_formula ed (counts t) → (rest : List ℕ)
    → Fair t (jobs_of answers ++ rest) → AnswersIn rest left (answers_of ed bytes s (steps_of (schedule ed bytes left s rest)))
onward_answers ed bytes t {s₀} {answers} {s} r q left e rest fair =
    schedule_takes ed bytes t s₀ r (jobs_of answers ++ rest) fair left answers s rest q (record { steps_left = e; jobs_left = refl })

-- NOTE 7

module _ (ed : Edition) (bytes : List ℕ) (t : Body) (s₀ : Lent) (r : reading ed bytes ≡ program t)
    (loads : is_loaded (load ed bytes s₀).answer ≡ true)
  where
    -- from the loading on
    pub schedule_answers :
        (order : List ℕ) → Fair t order
        → AnswersIn order (step_formula ed (counts t))
        (answers_of ed bytes (load ed bytes s₀).after (steps_of (schedule ed bytes (step_formula ed (counts t)) (load ed bytes s₀).after order)))
    unfolding jobs_of accepted_in
    schedule_answers order fair = onward_answers ed bytes t r (begun loads) (step_formula ed (counts t)) (omega arith) order fair

    fair_happens : (order : List ℕ) → Fair t order → Happens ed bytes t s₀ order
    fair_happens order fair =
        let s = (load ed bytes s₀).after in
        let steps = steps_of (schedule ed bytes (step_formula ed (counts t)) s order) in
        let all = schedule_answers order fair in
        record {
          answers = answers_of ed bytes s steps;
          after = leaves_of ed bytes s steps;
          by_steps = calls_reached ed bytes s₀ steps s (begun loads);
          at_full_count = all.their_number;
          in_this_order = all.in_this_order;
        }

    happens_fair : (order : List ℕ) → Happens ed bytes t s₀ order → Fair t order
    happens_fair order h = subst (Fair t) h.in_this_order (full_fair ed bytes t r h.by_steps h.at_full_count)

-- Of every accepted loading.
pub fair_orders :
    (ed : Edition) (bytes : List ℕ) (s₀ : Lent) → is_loaded (load ed bytes s₀).answer ≡ true
    → (t : Body) × (reading ed bytes ≡ program t) × FairOrders ed bytes t s₀
fair_orders ed bytes s₀ loads =
    let (t, r) = reached_program ed bytes (begun loads) in (
      t,
      r,
      record {
        exactly_fair = λ order. (happens_fair ed bytes t s₀ r loads order, fair_happens ed bytes t s₀ r loads order);
        scheduled = schedule_answers ed bytes t s₀ r loads;
      },
    )

-- TRACES OF AN ENGINE

module _ {ed : Edition} {bytes : List ℕ} {t : Body} {s₀ : Lent} {answers : List StepSaid} {s : Lent} (r : reading ed bytes ≡ program t) where
  -- One that ends at the full count answers the jobs in a fair order, whatever its calls are.
  pub trace_fair :
      {cs : List Call} → Trace ed bytes s₀ cs answers s → accepted_in answers ≡ step_formula ed (counts t) → Fair t (jobs_of answers)
  trace_fair tr full = full_fair ed bytes t r (trace_reached tr) full

  -- One whose calls are steps does, and where these are the steps of a fair order's schedule, in that order.
  pub trace_in_order : (named : List ℕ) → Trace ed bytes s₀ (steps_of named) answers s → InFairOrder ed bytes t s₀ named answers
  trace_in_order named tr =
      record {
        at_full_count = trace_fair tr;
        by_schedule =
            λ order fair e.
            subst (AnswersIn order (step_formula ed (counts t)))
            (sym ((trace_answers tr).0 ∙ ap (λ (vs : List ℕ). answers_of ed bytes (load ed bytes s₀).after (steps_of vs)) e))
            (schedule_answers ed bytes t s₀ r (trace_loaded tr) order fair);
      }
