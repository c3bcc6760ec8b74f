-- Which vertices can step. One that may start can: it is released, and its word says that no edge leads into it. Of the others only one that
-- executes can, where what is due would be accepted.
use Prim.Native.Nat.{ℕ, ◌<◌}
use mathlib.Core.Path.{◌≡◌, refl, sym, ◌∙◌, ap}
use mathlib.Core.Bool.{Bool, true, false}
use mathlib.Core.Logic.{◌⊎◌, inl, inr, ⊎_elim}
use mathlib.Core.List.{List}
use borrow.Author.Tests.{eqb-true, eqb-false}
use Rattle.graph.specs.Tests.{both}
use Rattle.graph.specs.Tables.{Lent, RELEASED, EXECUTING, status, in_count}
use Rattle.graph.specs.Sound.{sound}
use Rattle.graph.specs.Answers.{Outcome}
use Rattle.graph.proofs.TestLaws.{both_left, both_right}
use Rattle.graph.proofs.SoundLaws.{sound_tally}
use Rattle.program.specs.declared.Edition.{Edition}
use Rattle.machine.specs.Answers.{accepted, StepSaid}
use Rattle.machine.specs.Stepping.{step_limit, start_due, Due, refusal_due, job_due, command_due, due}
use Rattle.machine.specs.Running.{can_step}
use Rattle.machine.proofs.TablesFollow.StepLaws.{step_is, start_due_lem}
use Rattle.machine.proofs.StepDemand2.{command-step, released_step}
use Rattle.machine.proofs.LookLaws.{idle_cannot}
use Rattle.engine.specs.Internal.Underway.{DueThere, may_start, takes}
use Rattle.engine.proofs.DueLaws.{due_there}

-- one that may start is released, and a start is due
may_released : (t : List ℕ) (k : ℕ) {r : Bool} → r ≡ may_start t k → r ≡ true → status t k ≡ RELEASED
unfolding may_start
may_released t k p q = eqb-true (status t k) RELEASED (both_left _ _ (sym p ∙ q))

pub may_due :
    (s : Lent) (k : ℕ) {r : Bool} → sound s ≡ true → s.steps < step_limit → k < s.made → r ≡ may_start s.vertices k → r ≡ true
    → start_due s k ≡ true
may_due s k known few lt p q = start_due_lem s k (sound_tally s known) few lt (may_released s.vertices k p q)

-- so it can step
pub start_can :
    (ed : Edition) (bytes : List ℕ) (s : Lent) (k : ℕ) {r : Bool} → sound s ≡ true → s.steps < step_limit → k < s.made
    → r ≡ may_start s.vertices k → r ≡ true → can_step ed bytes s k ≡ true
unfolding may_start
start_can ed bytes s k known few lt p q =
    ap accepted (released_step ed bytes s k (sound_tally s known) few lt (may_released s.vertices k p q))
    ∙ rw (both_right _ _ (sym p ∙ q)) refl

pub both_fails : (a b : Bool) → both a b ≡ false → (a ≡ false) ⊎ (b ≡ false)
unfolding both
both_fails true b h = inr h
both_fails false b h = inl refl

-- another one that does not execute cannot
pub barred :
    (ed : Edition) (bytes : List ℕ) (s : Lent) (k : ℕ) {r : Bool} → sound s ≡ true → k < s.made → r ≡ may_start s.vertices k → r ≡ false
    → (status s.vertices k ≡ EXECUTING → ⊥) → can_step ed bytes s k ≡ false
unfolding may_start
barred ed bytes s k known lt p q idle =
    idle_cannot ed bytes s k known lt idle
    (⊎_elim (λ h. inl (eqb-false (status s.vertices k) RELEASED h)) (λ h. inr (eqb-false (in_count s.vertices k) 0 h))
    (both_fails _ _ (sym p ∙ q)))

-- one can step exactly where what is due would be accepted
can_takes : (ed : Edition) (bytes : List ℕ) (s : Lent) (k : ℕ) {d : Due} → d ≡ due ed bytes s k → can_step ed bytes s k ≡ takes s d
unfolding takes
can_takes ed bytes s k {d = refusal_due n} h = ap (λ (o : Outcome StepSaid). accepted o.answer) (step_is ed bytes s k (sym h))
can_takes ed bytes s k {d = job_due n o w} h = ap (λ (o : Outcome StepSaid). accepted o.answer) (step_is ed bytes s k (sym h))
can_takes ed bytes s k {d = command_due c w} h = command-step ed bytes s k c w (sym h)

-- so one that executes can, exactly where that is seen
pub executing_can :
    (ed : Edition) (bytes : List ℕ) (s : Lent) (k : ℕ) {b : Bool} {d : Due} → sound s ≡ true → s.steps < step_limit → k < s.made
    → status s.vertices k ≡ EXECUTING → DueThere ed bytes s.vertices s.made k d → b ≡ takes s d → can_step ed bytes s k ≡ b
executing_can ed bytes s k known few lt is h r = can_takes ed bytes s k (due_there ed bytes s k known few lt is h) ∙ sym r
