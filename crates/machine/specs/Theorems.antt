-- The theorems of the machine, each as the statement that a function of src/laws.rt promises. docs/PROVED.md says what they come to.
use Rattle.std.specs.Prelude.{◌≡◌, true, false, ℕ, ◌+◌, ◌<◌, ◌⊎◌, ◌↔◌, List, ◌++◌}
use Rattle.graph.specs.Tables.{Lent}
use Rattle.graph.specs.Commands.{start}
use Rattle.graph.specs.Demand2.{EdgeHeld, UsableOnly}
use Rattle.graph.specs.InCounts.{CountsTrue, full_search}
use Rattle.refusal.specs.Refusals.{unsound_tables}
use Rattle.program.specs.declared.Edition.{Edition}
use Rattle.program.specs.Trees.{Body, Kind, counts}
use Rattle.program.specs.Located.{Code, located}
use Rattle.program.specs.Reader.{program, reading}
use Rattle.program.specs.Encodings.{step_formula}
use Rattle.machine.specs.Answers.{StepSaid, accepted, is_loaded, loading_refused}
use Rattle.machine.specs.Ahead.{Way, Apart, Stand, Ahead}
use Rattle.machine.specs.AheadByCode.{Pre}
use Rattle.machine.specs.Loading.{load}
use Rattle.machine.specs.Stepping.{due, step}
use Rattle.machine.specs.Running.{run, refused as run_refused}
use Rattle.machine.specs.Dispatching.{marks_of, waiting, dispatch}
use Rattle.machine.specs.Reached.{Reached, Call, a_run, StandsAs, DispatchStandsAs, call_answers, dispatch_steps, dispatch_answers, answers_of, leaves_of}
use Rattle.machine.specs.Traces.{Trace}
use Rattle.machine.specs.Demand2.{Does, Refused, HasPlace, OnlySuchSteps, OnlyFreeSteps}
use Rattle.machine.specs.Demand3.{accepted_in, ran_in, Written, Demand3}
use Rattle.machine.specs.FairOrders.{is_no_job, is_job_at, jobs_of, Fair, schedule, steps_of, AnswersIn, FairOrders, InFairOrder}
use Rattle.machine.specs.Examples.{table, Each}
use Rattle.machine.specs.HandedOut.{Job, jobs_among, HandsOut, In, OnlySet, Hosted}

-- demand 3, of whatever was reached from an accepted loading
abbrev pub ReachedDemand3 : Type 0
ReachedDemand3 =
    (ed : Edition) (bytes : List ℕ) (t : Body) (s₀ : Lent) (answers : List StepSaid) (s : Lent)
    → reading ed bytes ≡ program t
    → (q : Reached ed bytes s₀ answers s)
    → Demand3 ed bytes t q

-- what a list of calls, runs and dispatches among them, reaches from the loading of these bytes onto s₀
abbrev pub ReachedByCalls : Edition → List ℕ → Lent → List Call → Type 0
ReachedByCalls ed bytes s₀ cs =
    Reached ed bytes s₀ (answers_of ed bytes (load ed bytes s₀).after cs) (leaves_of ed bytes (load ed bytes s₀).after cs)

-- of every such list: it reaches this, and by whatever steps one takes this to be reached, demand 3 holds
abbrev pub CallsDemand3 : Type 0
CallsDemand3 =
    (ed : Edition) (bytes : List ℕ) (s₀ : Lent) (cs : List Call)
    → is_loaded (load ed bytes s₀).answer ≡ true
    → (t : Body) × (reading ed bytes ≡ program t) × ReachedByCalls ed bytes s₀ cs × ((q : ReachedByCalls ed bytes s₀ cs) → Demand3 ed bytes t q)

-- of every trace of an engine that is tied to the definitions call by call, likewise
abbrev pub TraceDemand3 : Type 0
TraceDemand3 =
    (ed : Edition) (bytes : List ℕ) (s₀ : Lent) (cs : List Call) (answers : List StepSaid) (s : Lent)
    → Trace ed bytes s₀ cs answers s
    → (t : Body) × (reading ed bytes ≡ program t) × Reached ed bytes s₀ answers s × ((q : Reached ed bytes s₀ answers s) → Demand3 ed bytes t q)

-- from whatever was reached a list of calls reaches what it answers and leaves
abbrev pub CallsReached : Type 0
CallsReached =
    (ed : Edition) (bytes : List ℕ) (s₀ : Lent) (cs : List Call) (answers : List StepSaid) (s : Lent)
    → Reached ed bytes s₀ answers s
    → Reached ed bytes s₀ (answers ++ answers_of ed bytes s cs) (leaves_of ed bytes s cs)

-- and what an engine answers and leaves in a trace is what its calls do
abbrev pub TraceAnswers : Type 0
TraceAnswers =
    (ed : Edition) (bytes : List ℕ) (s₀ : Lent) (cs : List Call) (answers : List StepSaid) (s : Lent)
    → Trace ed bytes s₀ cs answers s
    → (answers ≡ answers_of ed bytes (load ed bytes s₀).after cs) × (s ≡ leaves_of ed bytes (load ed bytes s₀).after cs)

-- two bodies of a program with p and q in different items, p in the earlier, are the same from p's item on, and so are the kinds on the way down to p
abbrev pub ApartOnce : Type 0
ApartOnce =
    (t : Body) (p q : ℕ) (c d : Code) (ks ls : List Kind)
    → Apart Way (located t) p q c ks
    → Apart Way (located t) p q d ls
    → (c ≡ d) × (ks ≡ ls)

-- two written jobs are in such a body, in one order or the other, or in two branches of a fork, or they are one
abbrev pub JobsStand : Type 0
JobsStand =
    (t : Body) (p q n n' : ℕ)
    → Written t p n
    → Written t q n'
    → Stand (located t) p q

-- the order of jobs is the one by recursion on code
abbrev pub AheadIsPre : Type 0
AheadIsPre =
    (m : Code) (p q : ℕ)
    → Ahead m p q ↔ Pre m p q

-- a loading that is refused changes nothing
abbrev pub RefusedLoadKeeps : Type 0
RefusedLoadKeeps =
    (ed : Edition) (bytes : List ℕ) (s : Lent)
    → is_loaded (load ed bytes s).answer ≡ false
    → (load ed bytes s).after ≡ s

-- only the refusals of the program's bytes have a place
abbrev pub LoadPlace : Type 0
LoadPlace =
    (ed : Edition) (bytes : List ℕ) (s : Lent) (n p : ℕ)
    → (load ed bytes s).answer ≡ loading_refused n p
    → HasPlace n ⊎ (p ≡ 0)

-- no word past the usable rows changes
abbrev pub LoadUsableOnly : Type 0
LoadUsableOnly =
    (ed : Edition) (bytes : List ℕ) (s : Lent)
    → UsableOnly s (load ed bytes s).after

-- a step does what is due
abbrev pub StepDoes : Type 0
StepDoes =
    (ed : Edition) (bytes : List ℕ) (s : Lent) (v : ℕ)
    → Does s v (step ed bytes s v) (due ed bytes s v)

-- it is refused exactly where its command is, or what stands before it
abbrev pub StepRefusedExactly : Type 0
StepRefusedExactly =
    (ed : Edition) (bytes : List ℕ) (s : Lent) (v n p : ℕ)
    → ((step ed bytes s v).answer ≡ StepSaid.refused n p) ↔ Refused ed bytes s v n p

-- and changes nothing then
abbrev pub RefusedStepKeeps : Type 0
RefusedStepKeeps =
    (ed : Edition) (bytes : List ℕ) (s : Lent) (v : ℕ)
    → accepted (step ed bytes s v).answer ≡ false
    → (step ed bytes s v).after ≡ s

-- 34 is not used
abbrev pub StepNever34 : Type 0
StepNever34 =
    (ed : Edition) (bytes : List ℕ) (s : Lent) (v p : ℕ)
    → (step ed bytes s v).answer ≡ StepSaid.refused 34 p
    → ⊥

-- its refusals have no place
abbrev pub StepPlace : Type 0
StepPlace =
    (ed : Edition) (bytes : List ℕ) (s : Lent) (v n p : ℕ)
    → (step ed bytes s v).answer ≡ StepSaid.refused n p
    → p ≡ 0

-- no step of a loaded program names an edge that is held already
abbrev pub EdgesAreNew : Type 0
EdgesAreNew =
    (ed : Edition) (bytes : List ℕ) (t : Body) (s₀ : Lent) (answers : List StepSaid) (s : Lent)
    → reading ed bytes ≡ program t
    → Reached ed bytes s₀ answers s
    → (v a b : ℕ)
    → (step ed bytes s v).answer ≡ StepSaid.edge a b
    → EdgeHeld s a b
    → ⊥

-- a run takes only steps of the lowest vertex that can step
abbrev pub RunRan : Type 0
RunRan =
    (ed : Edition) (bytes : List ℕ) (s : Lent) (budget : ℕ)
    → OnlySuchSteps ed bytes s budget (run ed bytes s budget)

-- it stands in a list of calls as these steps, and answers the last of them and their number
abbrev pub RunStands : Type 0
RunStands =
    (ed : Edition) (bytes : List ℕ) (s : Lent) (budget : ℕ)
    → StandsAs (call_answers ed bytes s (a_run budget)) (run ed bytes s budget)

-- it is refused by 12 alone
abbrev pub RunPlace : Type 0
RunPlace =
    (ed : Edition) (bytes : List ℕ) (s : Lent) (budget n p : ℕ)
    → (run ed bytes s budget).ending ≡ run_refused n p
    → (n ≡ unsound_tables) × (p ≡ 0)

-- a dispatch takes only steps of the lowest vertex that can step and is not busy, with a row left in the list
abbrev pub DispatchRan : Type 0
DispatchRan =
    (ed : Edition) (bytes : List ℕ) (s : Lent) (marks list : List ℕ) (budget : ℕ)
    → OnlyFreeSteps ed bytes s marks list budget (dispatch_steps ed bytes s marks list budget) (dispatch ed bytes s marks list budget)

-- it stands in a list of calls as these steps
abbrev pub DispatchStands : Type 0
DispatchStands =
    (ed : Edition) (bytes : List ℕ) (s : Lent) (marks list : List ℕ) (budget : ℕ)
    → DispatchStandsAs (dispatch_answers ed bytes s marks list budget) s marks list (dispatch ed bytes s marks list budget)

-- the list tells the jobs answered, in order
abbrev pub HandedAreJobs : Type 0
HandedAreJobs =
    (ed : Edition) (bytes : List ℕ) (s : Lent) (marks list : List ℕ) (budget : ℕ)
    → HandsOut marks list (dispatch_steps ed bytes s marks list budget) (dispatch ed bytes s marks list budget).handed_out

-- marks are only set, at their vertices
abbrev pub MarksOnlySet : Type 0
MarksOnlySet =
    (ed : Edition) (bytes : List ℕ) (s : Lent) (marks list : List ℕ) (budget : ℕ)
    → OnlySet marks (dispatch_steps ed bytes s marks list budget) (marks_of (dispatch ed bytes s marks list budget).handed_out)

-- where a dispatch ends waiting, each written job that was not handed out so far has a job ahead of it that is still running
abbrev pub NothingWaitsNeedlessly : Type 0
NothingWaitsNeedlessly =
    (ed : Edition) (bytes : List ℕ) (t : Body) (s₀ : Lent) (answers : List StepSaid) (s : Lent) (marks : List ℕ) (running : List Job)
    → reading ed bytes ≡ program t
    → Hosted ed bytes s₀ answers s marks running
    → (list : List ℕ) (budget : ℕ)
    → (dispatch ed bytes s marks list budget).ending ≡ waiting
    → (n o : ℕ)
    → Written t o n
    → ran_in o (answers ++ dispatch_answers ed bytes s marks list budget) ≡ 0
    → (j : Job) × In j (running ++ jobs_among (dispatch_steps ed bytes s marks list budget)) × Ahead (located t) j.offset o

-- each made vertex's in-count is the number of edges held into it: of whatever was reached from an accepted loading
abbrev pub ReachedCountsTrue : Type 0
ReachedCountsTrue =
    (ed : Edition) (bytes : List ℕ) (s₀ : Lent) (answers : List StepSaid) (s : Lent)
    → Reached ed bytes s₀ answers s
    → CountsTrue s

-- after a loading and any calls, refused ones included
abbrev pub CallsCountsTrue : Type 0
CallsCountsTrue =
    (ed : Edition) (bytes : List ℕ) (s₀ : Lent)
    → is_loaded (load ed bytes s₀).answer ≡ true
    → (cs : List Call)
    → CountsTrue (leaves_of ed bytes (load ed bytes s₀).after cs)

-- in every trace of an engine
abbrev pub TraceCountsTrue : Type 0
TraceCountsTrue =
    (ed : Edition) (bytes : List ℕ) (s₀ : Lent) (cs : List Call) (answers : List StepSaid) (s : Lent)
    → Trace ed bytes s₀ cs answers s
    → CountsTrue s

-- so a start answers and leaves there what the full search of all rows and edges would
abbrev pub ReachedStart : Type 0
ReachedStart =
    (ed : Edition) (bytes : List ℕ) (s₀ : Lent) (answers : List StepSaid) (s : Lent)
    → Reached ed bytes s₀ answers s
    → (v : ℕ)
    → start s v ≡ full_search s v

-- of every accepted loading a list of jobs is the order in which some steps, ended at the full count, answer them exactly if it is fair; the
-- steps of its schedule do
abbrev pub EveryFairOrder : Type 0
EveryFairOrder =
    (ed : Edition) (bytes : List ℕ) (s₀ : Lent)
    → is_loaded (load ed bytes s₀).answer ≡ true
    → (t : Body) × (reading ed bytes ≡ program t) × FairOrders ed bytes t s₀

-- from whatever was reached the schedule leads on to each fair order that begins with the jobs answered so far
abbrev pub OnwardAnswers : Type 0
OnwardAnswers =
    (ed : Edition) (bytes : List ℕ) (t : Body) (s₀ : Lent) (answers : List StepSaid) (s : Lent)
    → reading ed bytes ≡ program t
    → Reached ed bytes s₀ answers s
    → (left : ℕ)
    → accepted_in answers + left ≡ step_formula ed (counts t)
    → (rest : List ℕ)
    → Fair t (jobs_of answers ++ rest)
    → AnswersIn rest left (answers_of ed bytes s (steps_of (schedule ed bytes left s rest)))

-- a trace that ends at the full count answers the jobs in a fair order, whatever its calls are
abbrev pub TraceFair : Type 0
TraceFair =
    (ed : Edition) (bytes : List ℕ) (t : Body) (s₀ : Lent) (answers : List StepSaid) (s : Lent) (cs : List Call)
    → reading ed bytes ≡ program t
    → Trace ed bytes s₀ cs answers s
    → accepted_in answers ≡ step_formula ed (counts t)
    → Fair t (jobs_of answers)

-- one whose calls are the steps of a fair order's schedule does so in that order
abbrev pub TraceInOrder : Type 0
TraceInOrder =
    (ed : Edition) (bytes : List ℕ) (t : Body) (s₀ : Lent) (answers : List StepSaid) (s : Lent) (named : List ℕ)
    → reading ed bytes ≡ program t
    → Trace ed bytes s₀ (steps_of named) answers s
    → InFairOrder ed bytes t s₀ named answers

-- where jobs are all that can be stepped, one of which all others ahead were answered can be
abbrev pub NothingWaits : Type 0
NothingWaits =
    (ed : Edition) (bytes : List ℕ) (t : Body) (s₀ : Lent) (answers : List StepSaid) (s : Lent)
    → reading ed bytes ≡ program t
    → Reached ed bytes s₀ answers s
    → ((v : ℕ) → v < s.made → is_no_job (step ed bytes s v).answer ≡ false)
    → (n o : ℕ)
    → Written t o n
    → ran_in o answers ≡ 0
    → ((m p : ℕ) → Written t p m → (p ≡ o → ⊥) → Ahead (located t) p o → ran_in p answers ≡ 1)
    → (v : ℕ) × (v < s.made) × (is_job_at o (step ed bytes s v).answer ≡ true)

-- the bench examples come to what the table says
abbrev pub ExamplesComeTrue : Type 0
ExamplesComeTrue = Each table
