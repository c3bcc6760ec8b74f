-- Dispatch, a call for hosts that run jobs on threads (docs/DECISIONS.md, "A run on its own index, and dispatch"): it "steps the lowest vertex
-- that can step and is not busy, again and again; where a step answers a job, it marks that vertex busy in a lent table and writes vertex, number
-- and offset into a lent list". "The host clears a vertex's mark when its job has ended, and calls again."
use Rattle.std.specs.Prelude.{ℕ, zero, suc, ◌+◌, ◌*◌, ◌/◌, Bool, true, false, not, cond, List, eqb, leb, ltb, length, get_or, set}
use Rattle.std.proofs.Math.Option.{Option, none, some}
use Rattle.graph.specs.Tests.{both, lowest_below}
use Rattle.graph.specs.Tables.{Lent, vertex_rows}
use Rattle.refusal.specs.Refusals.{unsound_tables, busy_table_too_short}
use Rattle.program.specs.declared.Edition.{Edition}
use Rattle.machine.specs.Answers.{StepSaid, start, new, edge, release, transfer, job, stop, yield}
use Rattle.machine.specs.Stepping.{steppable, step}
use Rattle.machine.specs.Running.{can_step, lowest, all_finished}

-- THE LENT TABLE OF MARKS AND THE LENT LIST

-- The table of marks has a word for each vertex: 0 is not busy, and any other number is.
abbrev pub is_busy : List ℕ → ℕ → Bool
is_busy marks v = not (eqb (get_or marks v 0) 0)

abbrev pub marked : List ℕ → ℕ → List ℕ
marked marks v = set marks v 1

-- The list has three words for each job that is handed out: its vertex, its number and its offset. Only full rows of three are used.
abbrev pub job_words : ℕ
job_words = 3

abbrev pub room : List ℕ → ℕ
room list = length list / job_words

-- row k of the list
unfoldable pub noted : List ℕ → ℕ → ℕ → ℕ → ℕ → List ℕ
noted list k v n o = set (set (set list (job_words * k) v) (job_words * k + 1) n) (job_words * k + 2) o

-- WHAT IS HANDED OUT

-- the marks, the list, and how many jobs are in it
pub data Desk : Type 0 where
  desk : (marks list : List ℕ) (handed : ℕ) → Desk

abbrev pub marks_of : Desk → List ℕ
marks_of (desk marks list handed) = marks

abbrev pub list_of : Desk → List ℕ
list_of (desk marks list handed) = list

abbrev pub handed_of : Desk → ℕ
handed_of (desk marks list handed) = handed

-- "where a step answers a job, it marks that vertex busy .. and writes vertex, number and offset"
unfoldable pub hand_out : ℕ → StepSaid → Desk → Desk
hand_out v (job n o) (desk marks list handed) = desk (marked marks v) (noted list handed v n o) (suc handed)
hand_out v start d = d
hand_out v (new t) d = d
hand_out v (edge a b) d = d
hand_out v (release t) d = d
hand_out v (transfer t) d = d
hand_out v stop d = d
hand_out v yield d = d
hand_out v (StepSaid.refused n p) d = d

-- THE CALL

-- "the lowest vertex that can step and is not busy"
unfoldable pub lowest_free : Edition → List ℕ → Lent → List ℕ → Option ℕ
lowest_free ed bytes s marks = lowest_below (λ v. both (can_step ed bytes s v) (not (is_busy marks v))) s.made

-- "it ends when the list is full, only busy vertices could step (waiting), all are finished (done), none can step (stuck) or the budget is used
-- (spent)"
pub data Ending : Type 0 where
  done : Ending
  stuck : Ending
  waiting : Ending
  full : Ending
  spent : Ending
  refused : ℕ → ℕ → Ending

-- how it ended, the steps taken, what is lent afterwards, and the marks, the list and the number of jobs in it
pub record Outcome : Type 0 where
  pub ending : Ending
  pub taken : ℕ
  pub after : Lent
  pub handed_out : Desk

abbrev pub ended : Ending → ℕ → Lent → Desk → Outcome
ended e taken s d = record { ending = e; taken = taken; after = s; handed_out = d }

-- Before each step it looks, as a run does: done if all vertices made are finished; stuck if no step would be accepted; waiting if none of a vertex
-- that is not busy would be; full if the list has no row left; spent if the budget is used.
unfoldable pub look : Edition → List ℕ → (Lent → Desk → ℕ → Outcome) → ℕ → Lent → Desk → ℕ → (finished : Bool) (any free : Option ℕ) (left : Bool) → Outcome
look ed bytes again budget s d taken true any free left = ended done taken s d
look ed bytes again budget s d taken false none free left = ended stuck taken s d
look ed bytes again budget s d taken false (some u) none left = ended waiting taken s d
look ed bytes again budget s d taken false (some u) (some v) false = ended full taken s d
look ed bytes again zero s d taken false (some u) (some v) true = ended spent taken s d
look ed bytes again (suc budget) s d taken false (some u) (some v) true =
    again (step ed bytes s v).after (hand_out v (step ed bytes s v).answer d) (suc taken)

-- the same of what is lent, where these are the marks and the list
unfoldable pub look_at : Edition → List ℕ → (Lent → Desk → ℕ → Outcome) → ℕ → Lent → Desk → ℕ → Outcome
look_at ed bytes again budget s d taken =
    look ed bytes again budget s d taken (all_finished s) (lowest ed bytes s) (lowest_free ed bytes s (marks_of d)) (ltb (handed_of d) (room (list_of d)))

unfoldable pub dispatch_on : Edition → List ℕ → ℕ → Lent → Desk → ℕ → Outcome
dispatch_on ed bytes zero s d taken = look_at ed bytes (λ s' d' t. ended spent t s' d') 0 s d taken
dispatch_on ed bytes (suc budget) s d taken = look_at ed bytes (dispatch_on ed bytes budget) (suc budget) s d taken

-- "Any lengths and contents of both tables end in such an ending or a numbered refusal that changed nothing": 12 as for a run, then 44 where
-- the table of marks has fewer words than the vertex table has usable rows. The list may have any length.
unfoldable pub dispatch : Edition → List ℕ → Lent → (marks list : List ℕ) → (budget : ℕ) → Outcome
dispatch ed bytes s marks list budget =
    cond (steppable s)
    (cond (leb (vertex_rows s.vertices) (length marks)) (dispatch_on ed bytes budget s (desk marks list 0) 0)
    (ended (refused busy_table_too_short 0) 0 s (desk marks list 0)))
    (ended (refused unsound_tables 0) 0 s (desk marks list 0))
