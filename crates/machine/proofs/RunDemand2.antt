-- Demand 2 of a run: it takes only steps, each of the lowest vertex that can step, counts them, and ends as it finds: done, stuck or spent
-- (`run_ran`); its refusal is 12 at no place (`run_place`).
use Prim.Native.Nat.{ℕ, zero, suc, ◌+◌, ◌≤◌}
use mathlib.Core.Path.{◌≡◌, refl, sym, ◌∙◌, ap, subst}
use mathlib.Core.Bool.{Bool, true, false, cond}
use mathlib.Core.List.{List}
use mathlib.Core.Option.{Option, none, some}
use native.Mathlib.Omega.{arith}
use borrow.Author.Tests.{eq-eqb, eqb-true}
use Rattle.graph.specs.Tables.{Lent, FINISHED, status}
use Rattle.graph.specs.Commands.{has_status}
use Rattle.graph.proofs.TestLaws.{true-false, not_so, every_at, every_all}
use Rattle.graph.proofs.LowestLaws.{Finds, below_finds}
use Rattle.program.specs.declared.Edition.{Edition}
use Rattle.refusal.specs.Refusals.{unsound_tables}
use Rattle.machine.specs.Answers.{StepSaid}
use Rattle.machine.specs.Stepping.{steppable, step}
use Rattle.machine.specs.Running.{can_step, lowest, all_finished, Ending, refused, RunOutcome, ended, look, run_on, run}
use Rattle.machine.specs.Demand2.{Steps, no_step, one_more, AllFinished, Looks, OnlySuchSteps, run_refused, run_steps}
use Rattle.machine.proofs.StepDemand2.{can_ready, step_counts}

pub lowest_finds : (ed : Edition) (bytes : List ℕ) (s : Lent) → Finds (can_step ed bytes s) s.made (lowest ed bytes s)
unfolding lowest
lowest_finds ed bytes s = below_finds (can_step ed bytes s) s.made

-- "all vertices made are finished", as a test and in words
pub finished_all : (s : Lent) → all_finished s ≡ true → AllFinished s
unfolding all_finished
finished_all s h v lt = eqb-true (status s.vertices v) FINISHED (every_at (λ v. has_status s v FINISHED) s.made h v lt)

pub finished_not : (s : Lent) → all_finished s ≡ false → AllFinished s → ⊥
unfolding all_finished
finished_not s h all =
    true-false (every_all (λ v. has_status s v FINISHED) s.made (λ v lt. eq-eqb (status s.vertices v) FINISHED (all v lt))) h

-- what a run comes to from s with this budget, once it has ended
record Made (ed : Edition) (bytes : List ℕ) (s : Lent) (budget : ℕ) (o : RunOutcome) : Type 0 where
  by_steps : Steps ed bytes s o.taken o.last o.after
  within : o.taken ≤ budget
  looks : Looks ed bytes budget o.taken o.after o.ending

-- on from where it has come to, with so much of the budget left
module _ (ed : Edition) (bytes : List ℕ) (s₀ : Lent) (budget : ℕ) where
  -- `again` comes to that from wherever so much of the budget is left
  abbrev Onward : (Lent → Option StepSaid → ℕ → RunOutcome) → ℕ → Type 0
  Onward again left =
      (s : Lent) (last : Option StepSaid) (taken : ℕ) → Steps ed bytes s₀ taken last s → taken + left ≡ budget
      → Made ed bytes s₀ budget (again s last taken)

  -- one look
  look_made :
      (again : Lent → Option StepSaid → ℕ → RunOutcome) (left : ℕ) (s : Lent) (last : Option StepSaid) (taken : ℕ) (all : Bool) (x : Option ℕ)
      → ((l : ℕ) → left ≡ suc l → Onward again l) → Steps ed bytes s₀ taken last s → taken + left ≡ budget → all_finished s ≡ all
      → Finds (can_step ed bytes s) s.made x → Made ed bytes s₀ budget (look ed bytes again left s last taken all x)
  unfolding look
  look_made again left s last taken true x on steps e f finds =
      record { by_steps = steps; within = omega arith; looks = finished_all s f }
  look_made again left s last taken false none on steps e f finds =
      record {
        by_steps = steps;
        within = omega arith;
        looks = (finished_not s f, λ v. not_so (can_step ed bytes s v) (λ h. true-false h (finds v (can_ready ed bytes s v h).0)));
      }
  look_made again zero s last taken false (some v) on steps e f finds =
      record {
        by_steps = steps;
        within = omega arith;
        looks = (finished_not s f, (v, record { can = finds.0; none_lower = finds.1 }), omega arith);
      }
  look_made again (suc left) s last taken false (some v) on steps e f finds =
      on left refl (step ed bytes s v).after (some (step ed bytes s v).answer) (suc taken)
      (one_more v steps (record { can = finds.0; none_lower = finds.1 }))
      (omega arith)

  -- and so all of them
  on_made : (left : ℕ) → Onward (run_on ed bytes left) left
  unfolding run_on
  on_made zero s last taken steps e =
      look_made _ 0 s last taken _ _ (λ l q. absurd (omega arith)) steps e refl (lowest_finds ed bytes s)
  on_made (suc left) s last taken steps e =
      look_made (run_on ed bytes left) (suc left) s last taken (all_finished s) (lowest ed bytes s)
      (λ l q. let same : left ≡ l = omega arith in subst (λ (k : ℕ). Onward (run_on ed bytes left) k) same (on_made left))
      steps e refl (lowest_finds ed bytes s)

-- so many steps raise the count by as many
steps_counted :
    {ed : Edition} {bytes : List ℕ} {s s' : Lent} {n : ℕ} {last : Option StepSaid} → Steps ed bytes s n last s' → s'.steps ≡ s.steps + n
steps_counted no_step = omega arith
steps_counted {ed} {bytes} {s} (one_more {n = n} {s' = s'} v steps lowest) =
    let before : s'.steps ≡ s.steps + n = steps_counted steps in
    let now : (step ed bytes s' v).after.steps ≡ s'.steps + 1 = step_counts ed bytes s' v lowest.can in
    omega arith

-- A run is refused by 12 only, and changes nothing then; otherwise it takes only such steps, and their number is what it says and by what
-- the tally rises.
pub run_ran : (ed : Edition) (bytes : List ℕ) (s : Lent) (budget : ℕ) → OnlySuchSteps ed bytes s budget (run ed bytes s budget)
unfolding run
run_ran ed bytes s budget = go (steppable s) refl
  where
    made : Made ed bytes s budget (run_on ed bytes budget s none 0)
    made = on_made ed bytes s budget budget s none 0 no_step (omega arith)

    go :
        (b : Bool) → steppable s ≡ b
        → OnlySuchSteps ed bytes s budget (cond b (run_on ed bytes budget s none 0) (ended (refused unsound_tables 0) none 0 s))
    go true h = run_steps h made.by_steps made.within made.looks (steps_counted made.by_steps)
    go false h = run_refused h refl

-- A refused run is refused by 12, and has no place.
pub run_place :
    (ed : Edition) (bytes : List ℕ) (s : Lent) (budget n p : ℕ) → (run ed bytes s budget).ending ≡ refused n p → (n ≡ unsound_tables) × (p ≡ 0)
run_place ed bytes s budget n p h = there (run_ran ed bytes s budget) h
  where
    there : {o : RunOutcome} → OnlySuchSteps ed bytes s budget o → o.ending ≡ refused n p → (n ≡ unsound_tables) × (p ≡ 0)
    there (run_refused b e) h =
        let q : refused n p ≡ refused unsound_tables 0 = sym h ∙ ap (λ (o : RunOutcome). o.ending) e in
        (cc, cc)
    there {o} (run_steps b t le looks c) h = absurd (subst (λ (x : Ending). Looks ed bytes budget o.taken o.after x) h looks)
