-- "Every fair order can happen." (note 7) "For a loaded program, futures included, a list of its jobs is the order in which some list of steps as
-- in demand 3, ended at the full count, answers them exactly if each job stands in it once and no job before one that comes ahead of it." So the
-- engine forbids nothing needlessly, in either edition and on whatever tables the program was loaded. It is proved in proofs/FairOrders.antt.
--
-- "Jobs are told apart by offset", so an order is a list of offsets.
use Rattle.std.specs.Prelude.{ℕ, zero, suc, ◌+◌, ◌<◌, ◌≡◌, Bool, cond, ◌↔◌, List, [], ◌∷◌, ◌++◌, map, eqb, length}
use Rattle.std.proofs.Math.Option.{Option, none, some}
use Rattle.graph.specs.Tests.{both, lowest_below}
use Rattle.graph.specs.Tables.{Lent}
use Rattle.program.specs.Trees.{Body, counts}
use Rattle.program.specs.Encodings.{step_formula}
use Rattle.program.specs.Located.{located}
use Rattle.program.specs.declared.Edition.{Edition}
use Rattle.machine.specs.Answers.{StepSaid, accepted, start, new, edge, release, transfer, job, stop, yield, refused}
use Rattle.machine.specs.Loading.{load}
use Rattle.machine.specs.Stepping.{step}
use Rattle.machine.specs.Ahead.{Ahead}
use Rattle.machine.specs.Reached.{Reached, AllAccepted, Call, a_step, answers_of}
use Rattle.machine.specs.Demand3.{accepted_in, answers_job, Written}

-- THE ORDER IN WHICH STEPS ANSWER JOBS

-- the job that an answer names, by its offset, if it names one
unfoldable pub job_named : StepSaid → List ℕ
job_named (job n o) = o ∷ []
job_named start = []
job_named (new v) = []
job_named (edge a b) = []
job_named (release v) = []
job_named (transfer v) = []
job_named stop = []
job_named yield = []
job_named (refused n p) = []

-- "the order in which some list of steps .. answers them"
unfoldable pub jobs_of : List StepSaid → List ℕ
jobs_of [] = []
jobs_of (a ∷ answers) = job_named a ++ jobs_of answers

-- "some list of steps as in demand 3, ended at the full count": from the loading of these bytes onto s₀, some steps answer the jobs in this order
pub record Happens (ed : Edition) (bytes : List ℕ) (t : Body) (s₀ : Lent) (order : List ℕ) : Type 0 where
  pub answers : List StepSaid
  pub after : Lent
  pub by_steps : Reached ed bytes s₀ answers after
  pub at_full_count : accepted_in answers ≡ step_formula ed (counts t)
  pub in_this_order : jobs_of answers ≡ order

-- FAIR ORDERS

-- how often the job at o stands in an order
unfoldable pub times_in : ℕ → List ℕ → ℕ
times_in o [] = 0
times_in o (p ∷ order) = cond (eqb p o) 1 0 + times_in o order

pub record Fair (t : Body) (order : List ℕ) : Type 0 where
  -- "a list of its jobs"
  pub only_jobs : (o : ℕ) → 0 < times_in o order → (n : ℕ) × Written t o n
  -- "each job stands in it once"
  pub each_once : (n o : ℕ) → Written t o n → times_in o order ≡ 1
  -- "and no job before one that comes ahead of it": behind a job q stands none that is ahead of q
  pub none_early : (before behind : List ℕ) (p q : ℕ) → order ≡ before ++ (q ∷ behind) → Ahead (located t) p q → times_in p behind ≡ 0

-- A SCHEDULE FOR AN ORDER

-- the lowest vertex whose step would be answered so
unfoldable pub lowest_with : Edition → List ℕ → Lent → (StepSaid → Bool) → Option ℕ
lowest_with ed bytes s test = lowest_below (λ v. test (step ed bytes s v).answer) s.made

-- an accepted step that is no job; and the job at o
unfoldable pub is_no_job : StepSaid → Bool
is_no_job a = both (accepted a) (eqb (length (job_named a)) 0)

unfoldable pub is_job_at : ℕ → StepSaid → Bool
is_job_at o a = eqb (answers_job o a) 1

-- the vertex v is named, and `again` tells those behind its step, for the order that is left; or, where there is none, these are named
unfoldable pub naming : Edition → List ℕ → (Lent → List ℕ → List ℕ) → Lent → List ℕ → Option ℕ → List ℕ → List ℕ
naming ed bytes again s left none others = others
naming ed bytes again s left (some v) others = v ∷ again (step ed bytes s v).after left

-- the vertex that stands at the order's first job is named
unfoldable pub naming_job : Edition → List ℕ → (Lent → List ℕ → List ℕ) → Lent → List ℕ → List ℕ
naming_job ed bytes again s [] = []
naming_job ed bytes again s (o ∷ order) = naming ed bytes again s order (lowest_with ed bytes s (is_job_at o)) []

-- The vertices that a host names, one after the other, for the jobs to be answered in this order: it takes steps that are no jobs until there is
-- none, and then the order's next job, at most so many steps in all.
unfoldable pub schedule : Edition → List ℕ → ℕ → Lent → List ℕ → List ℕ
schedule ed bytes zero s order = []
schedule ed bytes (suc budget) s order =
    naming ed bytes (schedule ed bytes budget) s order (lowest_with ed bytes s is_no_job) (naming_job ed bytes (schedule ed bytes budget) s order)

-- steps of these vertices, as a list of calls
abbrev pub steps_of : List ℕ → List Call
steps_of vs = map a_step vs

-- What so many steps answer that are all accepted and answer the jobs in this order.
pub record AnswersIn (order : List ℕ) (count : ℕ) (answers : List StepSaid) : Type 0 where
  pub all_accepted : AllAccepted answers
  pub their_number : accepted_in answers ≡ count
  pub in_this_order : jobs_of answers ≡ order

-- NOTE 7, of a program with the tree t, and of an accepted loading of it onto s₀
pub record FairOrders (ed : Edition) (bytes : List ℕ) (t : Body) (s₀ : Lent) : Type 0 where
  -- "a list of its jobs is the order in which some list of steps .. answers them exactly if .."
  pub exactly_fair : (order : List ℕ) → Happens ed bytes t s₀ order ↔ Fair t order
  -- and where it is fair, the steps of its schedule are such a list
  pub scheduled :
      (order : List ℕ) → Fair t order
      → AnswersIn order (step_formula ed (counts t))
      (answers_of ed bytes (load ed bytes s₀).after (steps_of (schedule ed bytes (step_formula ed (counts t)) (load ed bytes s₀).after order)))

-- The same of one list of steps from that loading, which named these vertices and was answered so: at the full count the jobs were answered in a
-- fair order; and if these are the vertices of a fair order's schedule, in that order.
pub record InFairOrder (ed : Edition) (bytes : List ℕ) (t : Body) (s₀ : Lent) (named : List ℕ) (answers : List StepSaid) : Type 0 where
  pub at_full_count : accepted_in answers ≡ step_formula ed (counts t) → Fair t (jobs_of answers)
  pub by_schedule :
      (order : List ℕ) → Fair t order → named ≡ schedule ed bytes (step_formula ed (counts t)) (load ed bytes s₀).after order
      → AnswersIn order (step_formula ed (counts t)) answers
