-- The order in which answers name jobs.
--
--     named_cases      an answer names no job, or it is one
--     times_ran        a job stands in the order as often as it was answered
--     times_answered   a job that stands there was answered
--     jobs_split       where a job stands, an answer names it, and the answers before that one name the jobs before it
--     no_job_is, job_at_is, job_of    what the tests of a schedule tell of an answer
use Prim.Native.Nat.{ℕ, suc, ◌+◌, ◌<◌}
use mathlib.Core.Path.{◌≡◌, refl, sym, ◌∙◌, ap, subst}
use mathlib.Core.Bool.{true, false}
use mathlib.Core.Logic.{◌⊎◌, inl, inr, ⊎_elim}
use mathlib.Core.List.{List, [], ◌∷◌, ◌++◌, append-nil, append_assoc}
use native.Mathlib.Omega.{arith}
use lib.ListN.{length}
use borrow.Author.Tests.{eq-eqb, ne_eqb, eqb-true}
use Rattle.graph.proofs.TestLaws.{true-false, equal?, both_true, both_left, both_right}
use Rattle.machine.specs.Answers.{StepSaid, accepted}
use Rattle.machine.specs.Answers as said
use Rattle.machine.specs.Demand3.{answers_job, ran_in, Answered, first, later}
use Rattle.machine.specs.FairOrders.{job_named, jobs_of, times_in, is_no_job, is_job_at}
use Rattle.machine.proofs.GhostMachine.GhostLaws.{clash}

-- it is some job
abbrev pub IsJob : StepSaid → Type 0
IsJob a = (n : ℕ) × (o : ℕ) × (a ≡ said.job n o)

-- an answer names no job, or it is one
pub named_cases : (a : StepSaid) → (job_named a ≡ []) ⊎ IsJob a
unfolding job_named
named_cases (said.job n o) = inr (n, o, refl)
named_cases said.start = inl refl
named_cases (said.new v) = inl refl
named_cases (said.edge a b) = inl refl
named_cases (said.release v) = inl refl
named_cases (said.transfer v) = inl refl
named_cases said.stop = inl refl
named_cases said.yield = inl refl
named_cases (said.refused n p) = inl refl

pub job_names : (n o : ℕ) → job_named (said.job n o) ≡ o ∷ []
unfolding job_named
job_names n o = refl

pub named_times : (o : ℕ) (a : StepSaid) → times_in o (job_named a) ≡ answers_job o a
unfolding job_named times_in answers_job
named_times o (said.job n p) = omega arith
named_times o said.start = refl
named_times o (said.new v) = refl
named_times o (said.edge a b) = refl
named_times o (said.release v) = refl
named_times o (said.transfer v) = refl
named_times o said.stop = refl
named_times o said.yield = refl
named_times o (said.refused n p) = refl

pub times_append : (o : ℕ) (before behind : List ℕ) → times_in o (before ++ behind) ≡ times_in o before + times_in o behind
unfolding times_in
times_append o [] behind = omega arith
times_append o (p ∷ before) behind = omega (arith, times_append o before behind)

pub times_here : (o : ℕ) (order : List ℕ) → times_in o (o ∷ order) ≡ suc (times_in o order)
unfolding times_in
times_here o order = rw (eq-eqb o o refl) (omega arith)

pub times_other : (o p : ℕ) (order : List ℕ) → (p ≡ o → ⊥) → times_in o (p ∷ order) ≡ times_in o order
unfolding times_in
times_other o p order ne = rw (ne_eqb p o ne) (omega arith)

-- a job stands in the order of answers as often as it was answered
pub times_ran : (o : ℕ) (answers : List StepSaid) → times_in o (jobs_of answers) ≡ ran_in o answers
unfolding jobs_of times_in ran_in
times_ran o [] = refl
times_ran o (a ∷ answers) =
    omega (arith, times_append o (job_named a) (jobs_of answers), named_times o a, times_ran o answers)

pub jobs_snoc : (answers : List StepSaid) (a : StepSaid) → jobs_of (answers ++ (a ∷ [])) ≡ jobs_of answers ++ job_named a
unfolding jobs_of
jobs_snoc [] a = append-nil (job_named a)
jobs_snoc (b ∷ answers) a = ap (λ (l : List ℕ). job_named b ++ l) (jobs_snoc answers a) ∙ sym (append_assoc (job_named b) (jobs_of answers) (job_named a))

-- a job's own answer, the last answer, and no order
pub answers_own : (n o : ℕ) → answers_job o (said.job n o) ≡ 1
unfolding answers_job
answers_own n o = rw (eq-eqb o o refl) refl

pub answered_last : (answers : List StepSaid) (a : StepSaid) → Answered a (answers ++ (a ∷ []))
answered_last [] a = first
answered_last (b ∷ answers) a = later (answered_last answers a)

pub none_in : (o : ℕ) → times_in o [] ≡ 0
unfolding times_in
none_in o = refl

-- a job that stands in it was answered
pub times_answered : (o : ℕ) (answers : List StepSaid) → 0 < times_in o (jobs_of answers) → (n : ℕ) × Answered (said.job n o) answers
unfolding jobs_of times_in
times_answered o [] lt = absurd (omega arith)
times_answered o (a ∷ answers) lt = go (named_cases a) (times_answered o answers)
  where
    go :
        (job_named a ≡ []) ⊎ IsJob a
        → (0 < times_in o (jobs_of answers) → (n : ℕ) × Answered (said.job n o) answers) → (n : ℕ) × Answered (said.job n o) (a ∷ answers)
    go (inl e) again = let (n, i) = again (subst (λ (l : List ℕ). 0 < times_in o (l ++ jobs_of answers)) e lt) in (n, later i)
    go (inr (n, p, e)) again =
        ⊎_elim
        (λ same.
        (n, subst (λ (b : StepSaid). Answered (said.job n o) (b ∷ answers)) (sym (e ∙ ap (said.job n) same)) first))
        (λ other.
        let (m, i) = again (omega (arith, lt, times_append o (job_named a) (jobs_of answers), none e other)) in
        (m, later i))
        (equal? p o)
      where
        none : a ≡ said.job n p → (p ≡ o → ⊥) → times_in o (job_named a) ≡ 0
        none e other = ap (λ (b : StepSaid). times_in o (job_named b)) e ∙ ap (times_in o) (job_names n p) ∙ times_other o p [] other

-- the answer that names the job q behind these jobs, among others
pub data NamedBehind (answers : List StepSaid) (before : List ℕ) (q : ℕ) : Type 0 where
  named_behind :
      (B A : List StepSaid) (n : ℕ) → answers ≡ B ++ (said.job n q ∷ A) → jobs_of B ≡ before → NamedBehind answers before q

-- with an answer more in front that names no job, and with a job's
behind_other :
    {answers : List StepSaid} {before : List ℕ} {q : ℕ} (a : StepSaid) → job_named a ≡ [] → NamedBehind answers before q
    → NamedBehind (a ∷ answers) before q
unfolding jobs_of
behind_other a e (named_behind B A n is jobs) =
    named_behind (a ∷ B) A n (ap (λ (l : List StepSaid). a ∷ l) is) (ap (λ (l : List ℕ). l ++ jobs_of B) e ∙ jobs)

behind_job :
    {answers : List StepSaid} {before : List ℕ} {q : ℕ} (m p : ℕ) → NamedBehind answers before q
    → NamedBehind (said.job m p ∷ answers) (p ∷ before) q
unfolding jobs_of job_named
behind_job m p (named_behind B A n is jobs) =
    named_behind (said.job m p ∷ B) A n (ap (λ (l : List StepSaid). said.job m p ∷ l) is) (ap (λ (l : List ℕ). p ∷ l) jobs)

-- where a job stands, an answer names it
pub jobs_split :
    (answers : List StepSaid) (before behind : List ℕ) (q : ℕ) → jobs_of answers ≡ before ++ (q ∷ behind) → NamedBehind answers before q
unfolding jobs_of job_named
jobs_split [] [] behind q e = clash cc
jobs_split [] (x ∷ before) behind q e = clash cc
jobs_split (a ∷ answers) before behind q e = go a before e (named_cases a) (λ b h. jobs_split answers b behind q h)
  where
    go :
        (a : StepSaid) (before : List ℕ) → job_named a ++ jobs_of answers ≡ before ++ (q ∷ behind)
        → (job_named a ≡ []) ⊎ IsJob a
        → ((b : List ℕ) → jobs_of answers ≡ b ++ (q ∷ behind) → NamedBehind answers b q) → NamedBehind (a ∷ answers) before q
    go a before e (inl silent) again =
        behind_other a silent (again before (subst (λ (l : List ℕ). l ++ jobs_of answers ≡ before ++ (q ∷ behind)) silent e))
    go a [] e (inr (n, p, at)) again =
        let e' : job_named (said.job n p) ++ jobs_of answers ≡ q ∷ behind = rw at at e in
        let same : p ≡ q = cc in
        named_behind [] answers n (ap (λ (b : StepSaid). b ∷ answers) (at ∙ ap (said.job n) same)) refl
    go a (x ∷ before) e (inr (n, p, at)) again =
        let e' : p ∷ jobs_of answers ≡ x ∷ (before ++ (q ∷ behind)) = rw at at e in
        let same : p ≡ x = cc in
        let rest : jobs_of answers ≡ before ++ (q ∷ behind) = cc in
        rw (at, ← same) (behind_job n p (again before rest))

-- what the schedule's tests tell: an answer that is no job,
pub no_job_is : (a : StepSaid) → is_no_job a ≡ true → (accepted a ≡ true) × (job_named a ≡ [])
unfolding is_no_job
no_job_is a h = (both_left (accepted a) _ h, go (named_cases a) (eqb-true (length (job_named a)) 0 (both_right (accepted a) _ h)))
  where
    go : (job_named a ≡ []) ⊎ IsJob a → length (job_named a) ≡ 0 → job_named a ≡ []
    go (inl silent) z = silent
    go (inr (n, o, at)) z = absurd (omega (arith, z, ap (λ (b : StepSaid). length (job_named b)) at, ap (λ (l : List ℕ). length l) (job_names n o)))

-- and one that is the job at o
pub job_at_is : (o : ℕ) (a : StepSaid) → is_job_at o a ≡ true → (accepted a ≡ true) × (job_named a ≡ o ∷ [])
unfolding is_job_at
job_at_is o a h = go (named_cases a) (named_times o a ∙ eqb-true (answers_job o a) 1 h)
  where
    go :
        (job_named a ≡ []) ⊎ IsJob a → times_in o (job_named a) ≡ 1
        → (accepted a ≡ true) × (job_named a ≡ o ∷ [])
    go (inl silent) one = absurd (omega (arith, one, ap (times_in o) silent, none_in o))
    go (inr (n, p, at)) one =
        ⊎_elim
        (λ same. (ap accepted at, ap job_named at ∙ job_names n p ∙ ap (λ (x : ℕ). x ∷ []) same))
        (λ other.
        absurd (omega (arith, one, ap (times_in o) (ap job_named at ∙ job_names n p), times_other o p [] other, none_in o)))
        (equal? p o)

-- an accepted answer that is not no job is one
pub job_of : (a : StepSaid) → accepted a ≡ true → is_no_job a ≡ false → IsJob a
unfolding is_no_job
job_of a h job =
    ⊎_elim
    (λ silent. true-false (both_true h (eq-eqb (length (job_named a)) 0 (ap (λ (l : List ℕ). length l) silent))) job)
    (λ j. j)
    (named_cases a)
