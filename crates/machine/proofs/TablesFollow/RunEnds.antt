-- How a run ends from what was reached: done where nothing is left to do, and otherwise spent, since some vertex can always step. A dispatch
-- with enough marks ends done there, too, and otherwise waiting, full or spent.
use Prim.Native.Nat.{ℕ, ◌+◌, ◌<◌}
use mathlib.Core.Path.{◌≡◌, refl, sym, ◌∙◌, ap, subst}
use mathlib.Core.Bool.{true, false}
use mathlib.Core.Logic.{◌⊎◌, inl, inr}
use mathlib.Core.List.{List}
use native.Mathlib.Omega.{arith}
use lib.ListN.{length}
use Rattle.graph.specs.Tables.{Lent, FINISHED, vertex_rows}
use Rattle.graph.proofs.TestLaws.{true-false}
use Rattle.refusal.specs.Refusals.{busy_table_too_short}
use Rattle.program.specs.Trees.{Body, counts}
use Rattle.program.specs.declared.Edition.{Edition}
use Rattle.program.specs.Encodings.{steps_taken, step_formula}
use Rattle.program.proofs.Formulas.{steps_formula}
use Rattle.machine.specs.Answers.{StepSaid}
use Rattle.machine.specs.Stepping.{steppable}
use Rattle.machine.specs.Running.{can_step, Ending, done, stuck, spent, RunOutcome}
use Rattle.machine.specs.Running as running
use Rattle.machine.specs.Dispatching.{waiting, full}
use Rattle.machine.specs.Dispatching as dispatching
use Rattle.machine.specs.Demand2.{AllFinished, Looks, OnlySuchSteps, run_refused, run_steps, DispatchLooks, OnlyFreeSteps, tables_refused}
use Rattle.machine.specs.Demand2.{marks_refused, takes_free_steps}
use Rattle.machine.proofs.GhostMachine.Ghost.{Control, draft, fresh, ready, busy, joining, over}
use Rattle.machine.proofs.Counting.Weights.{total, each}
use Rattle.machine.proofs.Counting.CountLaws.{all_over, over_all, steps_run}
use Rattle.machine.proofs.TablesFollow.Follows.{setting_of}
use Rattle.machine.proofs.TablesFollow.FollowLaws.{status_of, follows_status}
use Rattle.machine.proofs.TablesFollow.Tracked.{Tracked}

-- a vertex with the status of one that is over is over
status_over : (x : Control) → status_of x ≡ FINISHED → x ≡ over
unfolding status_of
status_over (draft c) h = absurd (let z : ◌≡◌ {A = ℕ} 1 4 = h in omega arith)
status_over (fresh c) h = absurd (let z : ◌≡◌ {A = ℕ} 1 4 = h in omega arith)
status_over (ready c) h = absurd (let z : ◌≡◌ {A = ℕ} 2 4 = h in omega arith)
status_over (busy c ms) h = absurd (let z : ◌≡◌ {A = ℕ} 3 4 = h in omega arith)
status_over (joining c d ds) h = absurd (let z : ◌≡◌ {A = ℕ} 3 4 = h in omega arith)
status_over over h = refl

module _ {ed : Edition} {bytes : List ℕ} {t : Body} {s₀ : Lent} {answers : List StepSaid} {s : Lent} (T : Tracked ed bytes t s₀ answers s) where
  -- all vertices made are finished exactly if nothing is left to do
  finished_full : AllFinished s → s.steps ≡ step_formula ed (counts t)
  finished_full all =
      let z : total each T.state ≡ 0 =
      over_all each T.state
      (λ v lt.
      status_over (T.state.control v)
      (sym (follows_status s T.state v T.follows lt) ∙ all v (subst (λ (n : ℕ). v < n) (sym T.follows.made_is) lt)))
      in
      omega (arith, z, T.steps_are, steps_run t (setting_of ed bytes) T.runs, steps_formula ed t)

  full_finished : s.steps ≡ step_formula ed (counts t) → AllFinished s
  unfolding status_of
  full_finished h v lt =
      let z : total each T.state ≡ 0 = omega (arith, h, T.steps_are, steps_run t (setting_of ed bytes) T.runs, steps_formula ed t) in
      let l : v < T.state.count = subst (λ (n : ℕ). v < n) T.follows.made_is lt in
      follows_status s T.state v T.follows l ∙ ap status_of (all_over T.state z v l)

-- A run ends done at the full count, or spent before it.
pub data Ends (ed : Edition) (t : Body) (s : Lent) (o : RunOutcome) : Type 0 where
  ends_done : o.ending ≡ done → o.after.steps ≡ step_formula ed (counts t) → o.after.steps ≡ s.steps + o.taken → Ends ed t s o
  ends_spent :
      o.ending ≡ spent → (o.after.steps ≡ step_formula ed (counts t) → ⊥) → o.after.steps ≡ s.steps + o.taken → Ends ed t s o

pub run_ends :
    {ed : Edition} {bytes : List ℕ} {t : Body} {s₀ s : Lent} {answers : List StepSaid} {budget : ℕ} (o : RunOutcome) → steppable s ≡ true
    → OnlySuchSteps ed bytes s budget o → Tracked ed bytes t s₀ answers o.after
    → (((v : ℕ) → can_step ed bytes o.after v ≡ false) → o.after.steps ≡ step_formula ed (counts t)) → Ends ed t s o
run_ends o fit (run_refused h e) T live = true-false fit h
run_ends {ed} {bytes} {t} {s = s} {budget = budget} o fit (run_steps h steps_taken le looks counts_up) T live = go o.ending refl looks
  where
    go : (e : Ending) → o.ending ≡ e → Looks ed bytes budget o.taken o.after e → Ends ed t s o
    go done p l = ends_done p (finished_full T l) counts_up
    go stuck p l = absurd (l.0 (full_finished T (live l.1)))
    go spent p l = ends_spent p (λ f. l.0 (full_finished T f)) counts_up
    go (running.refused n k) p l = absurd l

-- A dispatch ends done at the full count, or otherwise before it, or is refused by 44.
pub data DispatchEnds (ed : Edition) (t : Body) (marks : List ℕ) (s : Lent) (o : dispatching.Outcome) : Type 0 where
  at_full_count : o.ending ≡ dispatching.done → o.after.steps ≡ step_formula ed (counts t) → DispatchEnds ed t marks s o
  before_it :
      (o.ending ≡ waiting) ⊎ ((o.ending ≡ full) ⊎ (o.ending ≡ dispatching.spent)) → (o.after.steps ≡ step_formula ed (counts t) → ⊥)
      → DispatchEnds ed t marks s o
  too_few_marks : length marks < vertex_rows s.vertices → o.ending ≡ dispatching.refused busy_table_too_short 0 → DispatchEnds ed t marks s o

pub dispatch_ends :
    {ed : Edition} {bytes : List ℕ} {t : Body} {s₀ s : Lent} {answers : List StepSaid} {marks list : List ℕ} {budget : ℕ}
    {steps : List (ℕ × StepSaid)} (o : dispatching.Outcome) → steppable s ≡ true → OnlyFreeSteps ed bytes s marks list budget steps o
    → Tracked ed bytes t s₀ answers o.after
    → (((v : ℕ) → can_step ed bytes o.after v ≡ false) → o.after.steps ≡ step_formula ed (counts t)) → DispatchEnds ed t marks s o
dispatch_ends o fit (tables_refused h empty e) T live = true-false fit h
dispatch_ends o fit (marks_refused h short empty e) T live = too_few_marks short (ap (λ (x : dispatching.Outcome). x.ending) e)
dispatch_ends {ed} {bytes} {t} {s = s} {marks = marks} {budget = budget} o fit (takes_free_steps h enough free number le looks counted) T live =
    go o.ending refl looks
  where
    go :
        (e : dispatching.Ending) → o.ending ≡ e → DispatchLooks ed bytes budget o.taken o.after o.handed_out e
        → DispatchEnds ed t marks s o
    go dispatching.done p l = at_full_count p (finished_full T l)
    go dispatching.stuck p l = absurd (l.0 (full_finished T (live l.1)))
    go waiting p l = before_it (inl p) (λ f. l.0 (full_finished T f))
    go full p l = before_it (inr (inl p)) (λ f. l.0 (full_finished T f))
    go dispatching.spent p l = before_it (inr (inr p)) (λ f. l.0 (full_finished T f))
    go (dispatching.refused n k) p l = absurd l
