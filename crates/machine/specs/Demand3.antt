-- Demand 3: docs/ENGINE.md, "The three demands" and what it says of the words of the third. It is proved in proofs/Demand3.antt.
use Rattle.std.specs.Prelude.{ℕ, ◌+◌, ◌<◌, ◌≤◌, ◌≡◌, true, false, cond, ◌⊎◌, ◌↔◌, List, [], ◌∷◌, ◌++◌, eqb, length}
use Rattle.std.proofs.Math.Option.{some}
use Rattle.graph.specs.Tables.{Lent, vertex_rows}
use Rattle.refusal.specs.Refusals.{no_such_vertex, edge_leads_in, vertex_is_new, vertex_is_finished}
use Rattle.graph.specs.Paths.{CycleFree, holds}
use Rattle.program.specs.Trees.{Body, counts}
use Rattle.program.specs.Encodings.{step_formula}
use Rattle.program.specs.Located.{Code, job_at, located, code_at}
use Rattle.program.specs.declared.Edition.{Edition}
use Rattle.machine.specs.Answers.{StepSaid, accepted, start, new, edge, release, transfer, job, stop, yield, refused}
use Rattle.machine.specs.Loading.{load}
use Rattle.machine.specs.Stepping.{step}
use Rattle.machine.specs.Running.{can_step, done, spent, run}
use Rattle.machine.specs.Dispatching.{waiting, full, dispatch}
use Rattle.machine.specs.Dispatching as dispatching
use Rattle.machine.specs.Reached.{Reached, begun, stepped}
use Rattle.machine.specs.Ahead.{Ahead}

-- "A step is accepted if it isn't refused": how many of the answers are
unfoldable pub accepted_in : List StepSaid → ℕ
accepted_in [] = 0
accepted_in (a ∷ answers) = cond (accepted a) 1 0 + accepted_in answers

-- "Jobs are told apart by offset." "A job has run when a step answers with its number and offset": how often the job at an offset was answered
unfoldable pub answers_job : ℕ → StepSaid → ℕ
answers_job o (job n p) = cond (eqb p o) 1 0
answers_job o start = 0
answers_job o (new v) = 0
answers_job o (edge a b) = 0
answers_job o (release v) = 0
answers_job o (transfer v) = 0
answers_job o stop = 0
answers_job o yield = 0
answers_job o (refused n p) = 0

unfoldable pub ran_in : ℕ → List StepSaid → ℕ
ran_in o [] = 0
ran_in o (a ∷ answers) = answers_job o a + ran_in o answers

-- a job with this number is written at this offset
pub data Written (t : Body) (o n : ℕ) : Type 0 where
  written : (r : Code) → code_at (located t) o ≡ some (job_at o n r) → Written t o n

-- an answer is in a list
pub data Answered (a : StepSaid) : List StepSaid → Type 0 where
  first : {answers : List StepSaid} → Answered a (a ∷ answers)
  later : {b : StepSaid} {answers : List StepSaid} → Answered a answers → Answered a (b ∷ answers)

-- a refusal that the host's choice of a vertex causes
abbrev pub ByChoice : ℕ → Type 0
ByChoice n = (n ≡ no_such_vertex) ⊎ ((n ≡ edge_leads_in) ⊎ ((n ≡ vertex_is_new) ⊎ (n ≡ vertex_is_finished)))

-- something holds after loading and after every step
unfoldable pub Throughout : {ed : Edition} {bytes : List ℕ} {s₀ : Lent} {answers : List StepSaid} {s : Lent} → (Lent → Type 0) → Reached ed bytes s₀ answers s → Type 0
Throughout {ed} {bytes} {s₀} P (begun h) = P (load ed bytes s₀).after
Throughout {ed} {bytes} P (stepped {s} r v) = Throughout P r × P (step ed bytes s v).after

-- Demand 3 of a program with the tree t, and of what was reached from an accepted loading of it by whatever steps: "Demand 3 and the order of
-- jobs are for a loading and steps that are all of one edition" (note 10), the edition ed.
pub record Demand3 (ed : Edition) (bytes : List ℕ) (t : Body) {s₀ : Lent} {answers : List StepSaid} {s : Lent} (q : Reached ed bytes s₀ answers s) : Type 0 where
  -- "after the list the accepted steps number at most 4 + w + 5a + 10f + 15k", with 9 for each future and 6 for each force (note 5), and for a
  -- fork 12 "in place of 15" in the second edition (note 10)
  pub at_most : accepted_in answers ≤ step_formula ed (counts t)
  -- "the tally's third number is how many were since loading"
  pub tally_tells : s.steps ≡ accepted_in answers
  -- "and some vertex can step exactly when they are fewer"
  pub progress : ((v : ℕ) × (can_step ed bytes s v ≡ true)) ↔ (accepted_in answers < step_formula ed (counts t))
  -- "No written job has run twice"; "only written jobs are answered"
  pub once : (o : ℕ) → ran_in o answers ≤ 1
  pub only_written : (n o : ℕ) → Answered (job n o) answers → Written t o n
  -- "none before a job that the text puts ahead of it": when one is answered, "each job ahead of it was answered before"
  pub in_order :
      (before after : List StepSaid) (n o p : ℕ) → answers ≡ before ++ (job n o ∷ after) → Ahead (located t) p o → ran_in p before ≡ 1
  -- "at the full count each has run once"
  pub all_run : accepted_in answers ≡ step_formula ed (counts t) → (n o : ℕ) → Written t o n → ran_in o answers ≡ 1
  -- "Never cyclic: neither after loading nor after any step does a path of one or more edges lead from a vertex to itself."
  pub never_cyclic : Throughout (λ s'. CycleFree (holds s'.edges s'.held)) q
  -- "No row was wanting: no step is answered 31 or 32": only the host's choice of a vertex is ever refused
  pub refusals : (n p : ℕ) → Answered (refused n p) answers → ByChoice n
  -- "the refused steps changed nothing"
  pub refused_keep : (v : ℕ) → accepted (step ed bytes s v).answer ≡ false → (step ed bytes s v).after ≡ s
  -- "A run .. answers done exactly when the full count is then reached, otherwise spent"; its steps are the tally's rise
  pub run_done : (budget : ℕ) → ((run ed bytes s budget).ending ≡ done) ↔ ((run ed bytes s budget).after.steps ≡ step_formula ed (counts t))
  pub run_else : (budget : ℕ) → ((run ed bytes s budget).ending ≡ done → ⊥) → (run ed bytes s budget).ending ≡ spent
  pub run_counts : (budget : ℕ) → (run ed bytes s budget).after.steps ≡ s.steps + (run ed bytes s budget).taken
  -- A dispatch with enough marks answers done exactly when the full count is then reached, otherwise waiting, full or spent; none is ever stuck, and
  -- its steps are the tally's rise.
  pub dispatch_done :
      (marks list : List ℕ) (budget : ℕ) → vertex_rows s.vertices ≤ length marks
      → ((dispatch ed bytes s marks list budget).ending ≡ dispatching.done)
      ↔ ((dispatch ed bytes s marks list budget).after.steps ≡ step_formula ed (counts t))
  pub dispatch_else :
      (marks list : List ℕ) (budget : ℕ) → vertex_rows s.vertices ≤ length marks
      → ((dispatch ed bytes s marks list budget).ending ≡ dispatching.done → ⊥)
      → ((dispatch ed bytes s marks list budget).ending ≡ waiting)
      ⊎ (((dispatch ed bytes s marks list budget).ending ≡ full) ⊎ ((dispatch ed bytes s marks list budget).ending ≡ dispatching.spent))
  pub never_stuck : (marks list : List ℕ) (budget : ℕ) → (dispatch ed bytes s marks list budget).ending ≡ dispatching.stuck → ⊥
  pub dispatch_counts :
      (marks list : List ℕ) (budget : ℕ)
      → (dispatch ed bytes s marks list budget).after.steps ≡ s.steps + (dispatch ed bytes s marks list budget).taken
