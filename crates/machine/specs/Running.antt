-- "A run takes a budget of steps and steps the lowest vertex whose step would be accepted."
use Rattle.std.specs.Prelude.{ℕ, zero, suc, Bool, true, false, cond, List}
use Rattle.std.proofs.Math.Option.{Option, none, some}
use Rattle.graph.specs.Tests.{every, lowest_below}
use Rattle.graph.specs.Tables.{Lent, FINISHED}
use Rattle.graph.specs.Commands.{has_status}
use Rattle.refusal.specs.Refusals.{unsound_tables}
use Rattle.program.specs.declared.Edition.{Edition}
use Rattle.machine.specs.Answers.{StepSaid, accepted}
use Rattle.machine.specs.Stepping.{steppable, step}

-- "A vertex can step if a step naming it there would be accepted."
abbrev pub can_step : Edition → List ℕ → Lent → ℕ → Bool
can_step ed bytes s v = accepted (step ed bytes s v).answer

unfoldable pub lowest : Edition → List ℕ → Lent → Option ℕ
lowest ed bytes s = lowest_below (can_step ed bytes s) s.made

-- The same as a question that a host may ask by itself; it is refused as a run is.
pub data Choice : Type 0 where
  choose : ℕ → Choice
  no_choice : Choice
  choice_refused : ℕ → ℕ → Choice

unfoldable pub chosen : Option ℕ → Choice
chosen (some v) = choose v
chosen none = no_choice

unfoldable pub choice : Edition → List ℕ → Lent → Choice
choice ed bytes s = cond (steppable s) (chosen (lowest ed bytes s)) (choice_refused unsound_tables 0)

-- "all vertices made are finished"
unfoldable pub all_finished : Lent → Bool
all_finished s = every (λ v. has_status s v FINISHED) s.made

-- "A run answers done, stuck or spent"; 12 is its only refusal
pub data Ending : Type 0 where
  done : Ending
  stuck : Ending
  spent : Ending
  refused : ℕ → ℕ → Ending

-- ".. with the last accepted step and the steps taken, or "none" and 0"
pub record RunOutcome : Type 0 where
  pub ending : Ending
  pub last : Option StepSaid
  pub taken : ℕ
  pub after : Lent

abbrev pub ended : Ending → Option StepSaid → ℕ → Lent → RunOutcome
ended e last taken s = record { ending = e; last = last; taken = taken; after = s }

-- "Before each step it looks: done if all vertices made are finished; stuck if no step would be accepted; spent if the budget is used."
unfoldable pub look : Edition → List ℕ → (Lent → Option StepSaid → ℕ → RunOutcome) → ℕ → Lent → Option StepSaid → ℕ → Bool → Option ℕ → RunOutcome
look ed bytes again budget s last taken true v = ended done last taken s
look ed bytes again budget s last taken false none = ended stuck last taken s
look ed bytes again zero s last taken false (some v) = ended spent last taken s
look ed bytes again (suc left) s last taken false (some v) =
    again (step ed bytes s v).after (some (step ed bytes s v).answer) (suc taken)

unfoldable pub run_on : Edition → List ℕ → ℕ → Lent → Option StepSaid → ℕ → RunOutcome
run_on ed bytes zero s last taken = look ed bytes (λ s' l t. ended spent l t s') 0 s last taken (all_finished s) (lowest ed bytes s)
run_on ed bytes (suc left) s last taken = look ed bytes (run_on ed bytes left) (suc left) s last taken (all_finished s) (lowest ed bytes s)

-- "Run: 12 only."
unfoldable pub run : Edition → List ℕ → Lent → ℕ → RunOutcome
run ed bytes s budget =
    cond (steppable s) (run_on ed bytes budget s none 0) (ended (refused unsound_tables 0) none 0 s)
