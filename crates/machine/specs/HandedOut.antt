-- What a dispatch hands out, and the history of a host that runs jobs on threads. What is proved of the first is in proofs/HandedOut.antt, of the
-- second in proofs/NothingWaits.antt.
use Rattle.std.specs.Prelude.{ℕ, ◌*◌, ◌<◌, ◌≤◌, ◌≡◌, true, false, cond, ◌⊎◌, List, [], ◌∷◌, ◌++◌, map, eqb, length, get_or, set, drop}
use Rattle.graph.specs.Tables.{Lent}
use Rattle.program.specs.declared.Edition.{Edition}
use Rattle.machine.specs.Answers.{StepSaid, start, new, edge, release, transfer, job, stop, yield, refused, is_loaded}
use Rattle.machine.specs.Loading.{load}
use Rattle.machine.specs.Stepping.{own_of}
use Rattle.machine.specs.Dispatching.{is_busy, marked, job_words, room, Desk, marks_of, list_of, handed_of, dispatch}
use Rattle.machine.specs.Reached.{answers_along, dispatch_steps, dispatch_answers}
use Rattle.machine.specs.FairOrders.{jobs_of}

-- THE JOBS AMONG A DISPATCH'S STEPS

-- a job that is handed out: "vertex, number and offset"
pub record Job : Type 0 where
  pub vertex : ℕ
  pub number : ℕ
  pub offset : ℕ

abbrev pub aJob : ℕ → ℕ → ℕ → Job
aJob v n o = record { vertex = v; number = n; offset = o }

-- the job that a step of v answers, if it answers one
unfoldable pub job_from : ℕ → StepSaid → List Job
job_from v (job n o) = aJob v n o ∷ []
job_from v start = []
job_from v (new t) = []
job_from v (edge a b) = []
job_from v (release t) = []
job_from v (transfer t) = []
job_from v stop = []
job_from v yield = []
job_from v (refused n p) = []

-- those of steps, in order: the vertices that they name, and their answers
unfoldable pub jobs_among : List (ℕ × StepSaid) → List Job
jobs_among [] = []
jobs_among (x ∷ steps) = job_from x.0 x.1 ++ jobs_among steps

-- the words of so many rows of the list
unfoldable pub rows_of : List Job → List ℕ
rows_of [] = []
rows_of (j ∷ js) = j.vertex ∷ j.number ∷ j.offset ∷ rows_of js

-- the marks, with the vertices of these jobs marked
unfoldable pub marked_by : List ℕ → List Job → List ℕ
marked_by marks [] = marks
marked_by marks (j ∷ js) = marked_by (marked marks j.vertex) js

-- What a dispatch hands out that was lent these marks and this list and takes these steps: exactly the jobs among their answers, in order. Row k of
-- the list is the k-th of them, the words behind these rows are what they were, and of the marks just their vertices' are set.
pub record HandsOut (marks list : List ℕ) (steps : List (ℕ × StepSaid)) (d : Desk) : Type 0 where
  pub their_number : handed_of d ≡ length (jobs_among steps)
  pub in_order : map (λ j. j.offset) (jobs_among steps) ≡ jobs_of (answers_along steps)
  pub rows : list_of d ≡ rows_of (jobs_among steps) ++ drop (job_words * handed_of d) list
  pub within : handed_of d ≤ room list
  pub marks_set : marks_of d ≡ marked_by marks (jobs_among steps)

-- x is in a list
pub data In {A : Type 0} (x : A) : List A → Type 0 where
  here : {xs : List A} → In x (x ∷ xs)
  later : {y : A} {xs : List A} → In x xs → In x (y ∷ xs)

-- The marks after these steps: none is cleared, and one that is not what it was is 1 and of a vertex whose step answered a job.
pub record OnlySet (marks : List ℕ) (steps : List (ℕ × StepSaid)) (marks' : List ℕ) : Type 0 where
  pub none_cleared : (v : ℕ) → is_busy marks v ≡ true → is_busy marks' v ≡ true
  pub at_jobs :
      (v : ℕ)
      → (get_or marks' v 0 ≡ get_or marks v 0)
      ⊎ ((get_or marks' v 0 ≡ 1) × ((n : ℕ) × (o : ℕ) × In (v, job n o) steps))

-- A vertex is left alone by these steps, which lead from s to s': none names it, and its own words are what they were.
pub record LeftAlone (v : ℕ) (s s' : Lent) (steps : List (ℕ × StepSaid)) : Type 0 where
  pub not_stepped : (a : StepSaid) → In (v, a) steps → ⊥
  pub same_own : v < s.made → own_of s' v ≡ own_of s v

-- A HOST'S HISTORY

-- without the jobs of v
unfoldable pub without : ℕ → List Job → List Job
without v [] = []
without v (j ∷ js) = cond (eqb j.vertex v) (without v js) (j ∷ without v js)

-- From an accepted loading onto s₀, with no vertex marked, a host calls dispatch with its marks and whatever list and budget, again and again; in
-- between it "clears a vertex's mark when its job has ended". These are its steps' answers so far, what is lent, the marks, and the jobs that are
-- still running: handed out, with the mark of their vertex not cleared since.
pub data Hosted (ed : Edition) (bytes : List ℕ) (s₀ : Lent) : List StepSaid → Lent → (marks : List ℕ) → (running : List Job) → Type 0 where
  load_first :
      (marks : List ℕ) → is_loaded (load ed bytes s₀).answer ≡ true → ((v : ℕ) → is_busy marks v ≡ false)
      → Hosted ed bytes s₀ [] (load ed bytes s₀).after marks []
  then_dispatch :
      {answers : List StepSaid} {s : Lent} {marks : List ℕ} {running : List Job} (list : List ℕ) (budget : ℕ)
      → Hosted ed bytes s₀ answers s marks running
      → Hosted ed bytes s₀ (answers ++ dispatch_answers ed bytes s marks list budget) (dispatch ed bytes s marks list budget).after
      (marks_of (dispatch ed bytes s marks list budget).handed_out)
      (running ++ jobs_among (dispatch_steps ed bytes s marks list budget))
  then_clear :
      {answers : List StepSaid} {s : Lent} {marks : List ℕ} {running : List Job} (v : ℕ) → Hosted ed bytes s₀ answers s marks running
      → Hosted ed bytes s₀ answers s (set marks v 0) (without v running)
