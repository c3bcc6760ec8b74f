-- A list of calls, runs and dispatches among them, reaches what its steps reach: a run or a dispatch is the steps that it makes, one after the
-- other (`calls_reached`). All of these are accepted, and the run answers with the last of them and their number (`run_stands`), the dispatch with
-- their number (`dispatch_stands`).
use Prim.Native.Nat.{ℕ, zero, suc, ◌+◌}
use mathlib.Core.Path.{◌≡◌, refl, sym, ◌∙◌, ap, subst}
use mathlib.Core.Bool.{Bool, true, false, cond}
use mathlib.Core.List.{List, [], ◌∷◌, ◌++◌, append-nil, append_assoc}
use mathlib.Core.Option.{Option, none, some}
use native.Mathlib.Omega.{arith}
use lib.ListN.{length, length-map}
use Rattle.graph.specs.Tables.{Lent}
use Rattle.graph.proofs.TestLaws.{true-false}
use Rattle.graph.proofs.LowestLaws.{Finds}
use Rattle.program.specs.declared.Edition.{Edition}
use Rattle.refusal.specs.Refusals.{unsound_tables, busy_table_too_short}
use Rattle.machine.specs.Answers.{StepSaid, accepted}
use Rattle.machine.specs.Stepping.{steppable, step}
use Rattle.machine.specs.Running.{can_step, lowest, all_finished, Ending, refused, RunOutcome, ended, look, run_on, run}
use Rattle.machine.specs.Dispatching.{Desk, desk, dispatch}
use Rattle.machine.specs.Dispatching as dispatching
use Rattle.machine.specs.Demand2.{Looks, OnlySuchSteps, run_refused, run_steps, FreeSteps, no_turn, turn, DispatchLooks, OnlyFreeSteps}
use Rattle.machine.specs.Demand2.{tables_refused, marks_refused, takes_free_steps}
use Rattle.machine.specs.Reached.{Reached, stepped, Call, a_step, a_run, a_dispatch, go_on, run_answers, last_or, AllAccepted, StandsAs}
use Rattle.machine.specs.Reached.{answers_along, dispatch_answers, DispatchStandsAs, call_answers, call_leaves, answers_of, leaves_of}
use Rattle.machine.proofs.RunDemand2.{lowest_finds, run_ran}
use Rattle.machine.proofs.DispatchDemand2.{dispatch_ran}

module _ (ed : Edition) (bytes : List ℕ) (s₀ : Lent) where
  -- nothing more was answered
  same_answers : {answers : List StepSaid} {s : Lent} → Reached ed bytes s₀ answers s → Reached ed bytes s₀ (answers ++ []) s
  same_answers {answers} {s} q = subst (λ (l : List StepSaid). Reached ed bytes s₀ l s) (sym (append-nil answers)) q

  -- a step, and then what comes behind it
  and_more :
      (answers : List StepSaid) {s' : Lent} (a : StepSaid) (rest : List StepSaid) → Reached ed bytes s₀ ((answers ++ (a ∷ [])) ++ rest) s'
      → Reached ed bytes s₀ (answers ++ (a ∷ rest)) s'
  and_more answers {s'} a rest q = subst (λ (l : List StepSaid). Reached ed bytes s₀ l s') (append_assoc answers (a ∷ []) rest) q

  -- what a run looks at when its budget is used: it stays where it is
  spent_reached :
      (again : Lent → Option StepSaid → ℕ → RunOutcome) {answers : List StepSaid} (s : Lent) (last : Option StepSaid) (taken : ℕ)
      → Reached ed bytes s₀ answers s → (b : Bool) (x : Option ℕ) → Reached ed bytes s₀ answers (look ed bytes again 0 s last taken b x).after
  unfolding look
  spent_reached again s last taken q true x = q
  spent_reached again s last taken q false none = q
  spent_reached again s last taken q false (some v) = q

  -- and when some of it is left
  look_reached :
      (left : ℕ) (again : Lent → Option StepSaid → ℕ → RunOutcome) (tells : Lent → List StepSaid) {answers : List StepSaid} (s : Lent)
      (last : Option StepSaid) (taken : ℕ)
      → ((l : List StepSaid) (s' : Lent) (last' : Option StepSaid) (taken' : ℕ) → Reached ed bytes s₀ l s'
      → Reached ed bytes s₀ (l ++ tells s') (again s' last' taken').after)
      → Reached ed bytes s₀ answers s → (b : Bool) (x : Option ℕ)
      → Reached ed bytes s₀ (answers ++ go_on ed bytes tells s b x) (look ed bytes again (suc left) s last taken b x).after
  unfolding look go_on
  look_reached left again tells s last taken on q true x = same_answers q
  look_reached left again tells s last taken on q false none = same_answers q
  look_reached left again tells {answers} s last taken on q false (some v) =
      and_more answers (step ed bytes s v).answer (tells (step ed bytes s v).after)
      (on (answers ++ ((step ed bytes s v).answer ∷ [])) (step ed bytes s v).after (some (step ed bytes s v).answer) (suc taken) (stepped q v))

  -- from where a run has come to, with so much of its budget left
  on_reached :
      (left : ℕ) (answers : List StepSaid) (s : Lent) (last : Option StepSaid) (taken : ℕ) → Reached ed bytes s₀ answers s
      → Reached ed bytes s₀ (answers ++ run_answers ed bytes left s) (run_on ed bytes left s last taken).after
  unfolding run_answers run_on
  on_reached zero answers s last taken q =
      same_answers (spent_reached _ s last taken q _ _)
  on_reached (suc left) answers s last taken q =
      look_reached left (run_on ed bytes left) (run_answers ed bytes left) s last taken (λ l s' last' taken'. on_reached left l s' last' taken') q
      (all_finished s) (lowest ed bytes s)

  -- a run
  run_on_reached :
      (budget : ℕ) {answers : List StepSaid} (s : Lent) → Reached ed bytes s₀ answers s → (b : Bool)
      → Reached ed bytes s₀ (answers ++ cond b (run_answers ed bytes budget s) [])
      (cond b (run_on ed bytes budget s none 0) (ended (refused unsound_tables 0) none 0 s)).after
  run_on_reached budget {answers} s q true = on_reached budget answers s none 0 q
  run_on_reached budget s q false = same_answers q

  -- the steps that a dispatch takes
  free_reached :
      {s s' : Lent} {d d' : Desk} {steps : List (ℕ × StepSaid)} (answers : List StepSaid) → FreeSteps ed bytes s d steps s' d'
      → Reached ed bytes s₀ answers s → Reached ed bytes s₀ (answers ++ answers_along steps) s'
  unfolding answers_along
  free_reached answers no_turn q = same_answers q
  free_reached {s = s} answers (turn v low row more) q =
      and_more answers (step ed bytes s v).answer _ (free_reached (answers ++ ((step ed bytes s v).answer ∷ [])) more (stepped q v))

  -- a dispatch
  dispatch_on_reached :
      {answers : List StepSaid} {s : Lent} {marks list : List ℕ} {budget : ℕ} {steps : List (ℕ × StepSaid)} {o : dispatching.Outcome}
      → Reached ed bytes s₀ answers s → OnlyFreeSteps ed bytes s marks list budget steps o
      → Reached ed bytes s₀ (answers ++ answers_along steps) o.after
  unfolding answers_along
  dispatch_on_reached q (tables_refused h empty e) = rw (empty, e) (same_answers q)
  dispatch_on_reached q (marks_refused h short empty e) = rw (empty, e) (same_answers q)
  dispatch_on_reached {answers} q (takes_free_steps h enough free number le looks counted) = free_reached answers free q

  -- a call
  call_reached :
      {answers : List StepSaid} (s : Lent) (c : Call) → Reached ed bytes s₀ answers s
      → Reached ed bytes s₀ (answers ++ call_answers ed bytes s c) (call_leaves ed bytes s c)
  unfolding call_answers call_leaves run
  call_reached s (a_step v) q = stepped q v
  call_reached s (a_run budget) q = run_on_reached budget s q (steppable s)
  call_reached s (a_dispatch marks list budget) q = dispatch_on_reached q (dispatch_ran ed bytes s marks list budget)

  pub run_reached :
      {answers : List StepSaid} (s : Lent) (budget : ℕ) → Reached ed bytes s₀ answers s
      → Reached ed bytes s₀ (answers ++ call_answers ed bytes s (a_run budget)) (run ed bytes s budget).after
  unfolding call_leaves
  run_reached s budget q = call_reached s (a_run budget) q

  pub dispatch_reached :
      {answers : List StepSaid} (s : Lent) (marks list : List ℕ) (budget : ℕ) → Reached ed bytes s₀ answers s
      → Reached ed bytes s₀ (answers ++ dispatch_answers ed bytes s marks list budget) (dispatch ed bytes s marks list budget).after
  dispatch_reached s marks list budget q = dispatch_on_reached q (dispatch_ran ed bytes s marks list budget)

  -- a list of calls, from what was reached
  pub calls_reached :
      (cs : List Call) {answers : List StepSaid} (s : Lent) → Reached ed bytes s₀ answers s
      → Reached ed bytes s₀ (answers ++ answers_of ed bytes s cs) (leaves_of ed bytes s cs)
  unfolding answers_of leaves_of
  calls_reached [] s q = same_answers q
  calls_reached (c ∷ cs) {answers} s q =
      subst (λ (l : List StepSaid). Reached ed bytes s₀ l (leaves_of ed bytes (call_leaves ed bytes s c) cs))
      (append_assoc answers (call_answers ed bytes s c) (answers_of ed bytes (call_leaves ed bytes s c) cs))
      (calls_reached cs (call_leaves ed bytes s c) (call_reached s c q))

-- one call more at the end of a list
pub answers_snoc :
    (ed : Edition) (bytes : List ℕ) (s : Lent) (cs : List Call) (c : Call)
    → answers_of ed bytes s (cs ++ (c ∷ [])) ≡ answers_of ed bytes s cs ++ call_answers ed bytes (leaves_of ed bytes s cs) c
unfolding answers_of leaves_of
answers_snoc ed bytes s [] c = append-nil (call_answers ed bytes s c)
answers_snoc ed bytes s (d ∷ cs) c =
    ap (λ (l : List StepSaid). call_answers ed bytes s d ++ l) (answers_snoc ed bytes (call_leaves ed bytes s d) cs c)
    ∙ sym (append_assoc (call_answers ed bytes s d) _ _)

pub leaves_snoc :
    (ed : Edition) (bytes : List ℕ) (s : Lent) (cs : List Call) (c : Call)
    → leaves_of ed bytes s (cs ++ (c ∷ [])) ≡ call_leaves ed bytes (leaves_of ed bytes s cs) c
unfolding leaves_of
leaves_snoc ed bytes s [] c = refl
leaves_snoc ed bytes s (d ∷ cs) c = leaves_snoc ed bytes (call_leaves ed bytes s d) cs c

-- the same answers, with the run that makes these steps, from where it has come to
record Along (before : Option StepSaid) (taken : ℕ) (answers : List StepSaid) (o : RunOutcome) : Type 0 where
  accepts : AllAccepted answers
  last_is : o.last ≡ last_or before answers
  number_is : o.taken ≡ taken + length answers

-- no step
along_none : (e : Ending) (before : Option StepSaid) (taken : ℕ) (s : Lent) → Along before taken [] (ended e before taken s)
unfolding AllAccepted last_or
along_none e before taken s = record { accepts = tt; last_is = refl; number_is = omega arith }

-- one step more
along_more :
    {before : Option StepSaid} {taken : ℕ} {a : StepSaid} {answers : List StepSaid} {o : RunOutcome} → accepted a ≡ true
    → Along (some a) (suc taken) answers o → Along before taken (a ∷ answers) o
unfolding AllAccepted last_or
along_more h x = record { accepts = (h, x.accepts); last_is = x.last_is; number_is = omega (arith, x.number_is) }

module _ (ed : Edition) (bytes : List ℕ) where
  -- one look when the budget is used
  spent_along :
      (again : Lent → Option StepSaid → ℕ → RunOutcome) (s : Lent) (before : Option StepSaid) (taken : ℕ) (b : Bool) (x : Option ℕ)
      → Along before taken [] (look ed bytes again 0 s before taken b x)
  unfolding look
  spent_along again s before taken true x = along_none _ before taken s
  spent_along again s before taken false none = along_none _ before taken s
  spent_along again s before taken false (some v) = along_none _ before taken s

  -- and when some of it is left
  look_along :
      (left : ℕ) (again : Lent → Option StepSaid → ℕ → RunOutcome) (tells : Lent → List StepSaid) (s : Lent) (before : Option StepSaid) (taken : ℕ)
      → ((s' : Lent) (before' : Option StepSaid) (taken' : ℕ) → Along before' taken' (tells s') (again s' before' taken'))
      → (b : Bool) (x : Option ℕ) → Finds (can_step ed bytes s) s.made x
      → Along before taken (go_on ed bytes tells s b x) (look ed bytes again (suc left) s before taken b x)
  unfolding look go_on
  look_along left again tells s before taken on true x finds = along_none _ before taken s
  look_along left again tells s before taken on false none finds = along_none _ before taken s
  look_along left again tells s before taken on false (some v) finds = along_more finds.0 (on _ _ _)

  -- from where a run has come to, with so much of its budget left
  on_along :
      (left : ℕ) (s : Lent) (before : Option StepSaid) (taken : ℕ)
      → Along before taken (run_answers ed bytes left s) (run_on ed bytes left s before taken)
  unfolding run_answers run_on
  on_along zero s before taken = spent_along _ s before taken _ _
  on_along (suc left) s before taken =
      look_along left (run_on ed bytes left) (run_answers ed bytes left) s before taken (on_along left) (all_finished s) (lowest ed bytes s)
      (lowest_finds ed bytes s)

-- no step at all
stands_none : (e : Ending) (s : Lent) → StandsAs [] (ended e none 0 s)
unfolding AllAccepted last_or
stands_none e s = record { all_accepted = tt; last_of_them = refl; their_number = refl; refused_none = λ n p q. refl }

-- "A run lent the same stands in a list as the steps that it makes": all are accepted, and it answers the last of them and their number.
pub run_stands :
    (ed : Edition) (bytes : List ℕ) (s : Lent) (budget : ℕ) → StandsAs (call_answers ed bytes s (a_run budget)) (run ed bytes s budget)
unfolding call_answers run
run_stands ed bytes s budget = go (steppable s) refl (run_ran ed bytes s budget)
  where
    along : Along none 0 (run_answers ed bytes budget s) (run_on ed bytes budget s none 0)
    along = on_along ed bytes budget s none 0

    not_refused : {o : RunOutcome} (n p : ℕ) → steppable s ≡ true → OnlySuchSteps ed bytes s budget o → o.ending ≡ refused n p → ⊥
    not_refused n p h (run_refused f _) e = true-false h f
    not_refused {o} n p h (run_steps _ _ _ looks _) e = subst (λ (x : Ending). Looks ed bytes budget o.taken o.after x) e looks

    go :
        (b : Bool) → steppable s ≡ b
        → OnlySuchSteps ed bytes s budget (cond b (run_on ed bytes budget s none 0) (ended (refused unsound_tables 0) none 0 s))
        → StandsAs (cond b (run_answers ed bytes budget s) [])
        (cond b (run_on ed bytes budget s none 0) (ended (refused unsound_tables 0) none 0 s))
    go true h ran =
        record {
          all_accepted = along.accepts;
          last_of_them = along.last_is;
          their_number = omega (arith, along.number_is);
          refused_none = λ n p e. absurd (not_refused n p h ran e);
        }
    go false h ran = stands_none (refused unsound_tables 0) s

-- the steps that a dispatch takes are accepted
free_accepted :
    {ed : Edition} {bytes : List ℕ} {s s' : Lent} {d d' : Desk} {steps : List (ℕ × StepSaid)} → FreeSteps ed bytes s d steps s' d'
    → AllAccepted (answers_along steps)
unfolding AllAccepted answers_along
free_accepted no_turn = tt
free_accepted (turn v low row more) = (low.can, free_accepted more)

-- no step at all, and as many answers as steps
none_stand :
    (e : dispatching.Ending) (s : Lent) (marks list : List ℕ)
    → DispatchStandsAs (answers_along []) s marks list (dispatching.ended e 0 s (desk marks list 0))
unfolding AllAccepted answers_along
none_stand e s marks list = record { all_accepted = tt; their_number = refl; refused_none = λ n p q. (refl, refl, refl) }

answers_number : (steps : List (ℕ × StepSaid)) → length steps ≡ length (answers_along steps)
unfolding answers_along
answers_number steps = sym (length-map steps (λ x. x.1))

-- A dispatch stands in a list as the steps that it makes, likewise: all are accepted, and it answers their number. A refused one makes none, and
-- leaves what is lent, the marks and the list as they were.
pub dispatch_stands :
    (ed : Edition) (bytes : List ℕ) (s : Lent) (marks list : List ℕ) (budget : ℕ)
    → DispatchStandsAs (dispatch_answers ed bytes s marks list budget) s marks list (dispatch ed bytes s marks list budget)
dispatch_stands ed bytes s marks list budget = go (dispatch_ran ed bytes s marks list budget)
  where
    go :
        {steps : List (ℕ × StepSaid)} {o : dispatching.Outcome} → OnlyFreeSteps ed bytes s marks list budget steps o
        → DispatchStandsAs (answers_along steps) s marks list o
    go (tables_refused h empty e) = rw (empty, e) (none_stand (dispatching.refused unsound_tables 0) s marks list)
    go (marks_refused h short empty e) = rw (empty, e) (none_stand (dispatching.refused busy_table_too_short 0) s marks list)
    go {steps} {o} (takes_free_steps h enough free number le looks counted) =
        record {
          all_accepted = free_accepted free;
          their_number = number ∙ answers_number steps;
          refused_none =
              λ n p e.
              absurd (subst (λ (x : dispatching.Ending). DispatchLooks ed bytes budget o.taken o.after o.handed_out x) e looks);
        }
