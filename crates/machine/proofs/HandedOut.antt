-- What a dispatch hands out, which marks it sets, and what it leaves alone, on any tables.
--
--     handed_are       it hands out exactly the jobs among its steps' answers, in order
--     row_tells        so row k of the list tells the job behind k others
--     rest_stays       and the words behind these rows are what they were
--     marks_only_set   marks are only set, to 1, where a step answered a job
--     left_alone       a vertex that is busy before is not stepped, and its own words stay
use Prim.Native.Nat.{ℕ, suc, ◌+◌, ◌-◌, ◌*◌, ◌<◌, ◌≤◌, ◌/◌}
use mathlib.Core.Path.{◌≡◌, refl, sym, ◌∙◌, ap, ap₂, subst}
use mathlib.Core.Bool.{true, not}
use mathlib.Core.Logic.{◌⊎◌, inl, inr, ⊎_elim}
use mathlib.Core.List.{List, [], ◌∷◌, ◌++◌, map, map-append, append_assoc}
use native.Mathlib.Omega.{arith}
use lib.Dec.{eqb, ltb}
use lib.ListN.{length, get_or, set, drop, length-append, length-set}
use lib.Seq.{sets, length-sets, sets-eq, set_out, get_or-set_same, get_or-set_other, get_or-append-add, get_or-drop}
use borrow.Author.Tests.{ltb-true, ltb-false}
use Rattle.graph.specs.Tables.{Lent}
use Rattle.graph.proofs.TestLaws.{true-false, decide, equal?}
use Rattle.program.specs.declared.Edition.{Edition}
use Rattle.machine.specs.Answers.{StepSaid, start, new, edge, release, transfer, job, stop, yield, refused}
use Rattle.machine.specs.Stepping.{step}
use Rattle.machine.specs.Dispatching.{is_busy, marked, job_words, room, noted, Desk, desk, marks_of, list_of, handed_of, hand_out, Outcome, dispatch}
use Rattle.machine.specs.Demand2.{FreeSteps, no_turn, turn, OnlyFreeSteps, tables_refused, marks_refused, takes_free_steps}
use Rattle.machine.specs.Reached.{answers_along, dispatch_steps}
use Rattle.machine.specs.FairOrders.{job_named, jobs_of}
use Rattle.machine.specs.HandedOut.{Job, aJob, job_from, jobs_among, rows_of, marked_by, HandsOut, In, here, later, OnlySet, LeftAlone}
use Rattle.machine.proofs.DispatchDemand2.{dispatch_ran}
use Rattle.machine.proofs.LookLaws.{step_else}
use Rattle.machine.proofs.GhostMachine.GhostLaws.{in_cases, in_none, in_either}

-- stores of one row of words after the other
sets_append : (l xs ys : List ℕ) (i : ℕ) → sets l i (xs ++ ys) ≡ sets (sets l i xs) (i + length xs) ys
sets_append l [] ys i = ap (λ (k : ℕ). sets l k ys) (omega arith)
sets_append l (x ∷ xs) ys i =
    sets_append (set l i x) xs ys (suc i) ∙ ap (λ (k : ℕ). sets (sets (set l i x) (suc i) xs) k ys) (omega arith)

rows_append : (js ks : List Job) → rows_of (js ++ ks) ≡ rows_of js ++ rows_of ks
unfolding rows_of
rows_append [] ks = refl
rows_append (j ∷ js) ks = ap (λ (l : List ℕ). j.vertex ∷ j.number ∷ j.offset ∷ l) (rows_append js ks)

rows_length : (js : List Job) → length (rows_of js) ≡ job_words * length js
unfolding rows_of
rows_length [] = refl
rows_length (j ∷ js) = omega (arith, rows_length js)

marked_append : (marks : List ℕ) (js ks : List Job) → marked_by marks (js ++ ks) ≡ marked_by (marked_by marks js) ks
unfolding marked_by
marked_append marks [] ks = refl
marked_append marks (j ∷ js) ks = marked_append _ js ks

pub marked_length : (marks : List ℕ) (js : List Job) → length (marked_by marks js) ≡ length marks
unfolding marked_by
marked_length marks [] = refl
marked_length marks (j ∷ js) = marked_length (marked marks j.vertex) js ∙ length-set marks j.vertex 1

-- These jobs were handed out in between.
pub record Handed (d : Desk) (js : List Job) (d' : Desk) : Type 0 where
  pub so_many : handed_of d' ≡ handed_of d + length js
  pub words : list_of d' ≡ sets (list_of d) (job_words * handed_of d) (rows_of js)
  pub marks : marks_of d' ≡ marked_by (marks_of d) js

handed_none : (d : Desk) → Handed d [] d
unfolding rows_of marked_by
handed_none d = record { so_many = omega arith; words = refl; marks = refl }

-- one job
handed_one :
    (marks list : List ℕ) (k v n o : ℕ)
    → Handed (desk marks list k) (aJob v n o ∷ []) (hand_out v (job n o) (desk marks list k))
unfolding hand_out noted rows_of marked_by
handed_one marks list k v n o =
    record {
      so_many = omega arith;
      words = ap₂ (λ (i j : ℕ). set (set (set list (job_words * k) v) i n) j o) (omega arith) (omega arith);
      marks = refl;
    }

-- some, and then others
handed_both : {d d' d'' : Desk} {js ks : List Job} → Handed d js d' → Handed d' ks d'' → Handed d (js ++ ks) d''
handed_both {d} {d'} {d''} {js} {ks} a b =
    record {
      so_many = omega (arith, a.so_many, b.so_many, length-append js ks);
      words =
          b.words
          ∙ ap₂ (λ (l : List ℕ) (i : ℕ). sets l i (rows_of ks)) a.words (omega (arith, a.so_many, rows_length js))
          ∙ sym (sets_append (list_of d) (rows_of js) (rows_of ks) (job_words * handed_of d))
          ∙ ap (λ (l : List ℕ). sets (list_of d) (job_words * handed_of d) l) (sym (rows_append js ks));
      marks =
          b.marks
          ∙ ap (λ (m : List ℕ). marked_by m ks) a.marks
          ∙ sym (marked_append (marks_of d) js ks);
    }

-- a step's answer
pub handed_answer : (v : ℕ) (a : StepSaid) (d : Desk) → Handed d (job_from v a) (hand_out v a d)
unfolding job_from hand_out
handed_answer v (job n o) (desk marks list k) = handed_one marks list k v n o
handed_answer v start d = handed_none d
handed_answer v (new t) d = handed_none d
handed_answer v (edge a b) d = handed_none d
handed_answer v (release t) d = handed_none d
handed_answer v (transfer t) d = handed_none d
handed_answer v stop d = handed_none d
handed_answer v yield d = handed_none d
handed_answer v (refused n p) d = handed_none d

-- all of a dispatch's steps
handed_steps :
    {ed : Edition} {bytes : List ℕ} {s s' : Lent} {d d' : Desk} {steps : List (ℕ × StepSaid)} → FreeSteps ed bytes s d steps s' d'
    → Handed d (jobs_among steps) d'
unfolding jobs_among
handed_steps {d = d} no_turn = handed_none d
handed_steps {ed} {bytes} {s} {d = d} (turn v low row more) =
    handed_both (handed_answer v (step ed bytes s v).answer d) (handed_steps more)

-- THE LIST

-- a step answers one job at most
one_at_most : (v : ℕ) (a : StepSaid) → length (job_from v a) ≤ 1
unfolding job_from
one_at_most v (job n o) = omega arith
one_at_most v start = omega arith
one_at_most v (new t) = omega arith
one_at_most v (edge a b) = omega arith
one_at_most v (release t) = omega arith
one_at_most v (transfer t) = omega arith
one_at_most v stop = omega arith
one_at_most v yield = omega arith
one_at_most v (refused n p) = omega arith

-- the list is as long as it was
same_room : {d d' : Desk} {js : List Job} → Handed d js d' → room (list_of d') ≡ room (list_of d)
same_room {d} {js = js} h =
    ap (λ (l : List ℕ). length l / job_words) h.words
    ∙ ap (λ (n : ℕ). n / job_words) (length-sets (list_of d) (job_words * handed_of d) (rows_of js))

-- and what is handed out fits into it
rows_fit :
    {ed : Edition} {bytes : List ℕ} {s s' : Lent} {d d' : Desk} {steps : List (ℕ × StepSaid)} → FreeSteps ed bytes s d steps s' d'
    → handed_of d ≤ room (list_of d) → handed_of d' ≤ room (list_of d)
rows_fit no_turn le = le
rows_fit {ed} {bytes} {s} {d = d} {d'} (turn v low row more) le =
    let a = (step ed bytes s v).answer in
    let h = handed_answer v a d in
    subst (λ (n : ℕ). handed_of d' ≤ n) (same_room h) (rows_fit more (omega (arith, row, h.so_many, one_at_most v a, same_room h)))

-- the jobs handed out are those that the answers name
one_named : (v : ℕ) (a : StepSaid) → map (λ j. j.offset) (job_from v a) ≡ job_named a
unfolding job_from job_named
one_named v (job n o) = refl
one_named v start = refl
one_named v (new t) = refl
one_named v (edge a b) = refl
one_named v (release t) = refl
one_named v (transfer t) = refl
one_named v stop = refl
one_named v yield = refl
one_named v (refused n p) = refl

all_named : (steps : List (ℕ × StepSaid)) → map (λ j. j.offset) (jobs_among steps) ≡ jobs_of (answers_along steps)
unfolding jobs_among answers_along jobs_of
all_named [] = refl
all_named (x ∷ steps) =
    map-append (λ j. j.offset) (job_from x.0 x.1) (jobs_among steps)
    ∙ ap₂ (λ (l m : List ℕ). l ++ m) (one_named x.0 x.1) (all_named steps)

-- No step, no job.
hands_none : (marks list : List ℕ) → HandsOut marks list [] (desk marks list 0)
unfolding jobs_among answers_along jobs_of rows_of marked_by
hands_none marks list = record { their_number = refl; in_order = refl; rows = refl; within = omega arith; marks_set = refl }

-- A dispatch hands out exactly the jobs among its steps' answers.
pub handed_are :
    (ed : Edition) (bytes : List ℕ) (s : Lent) (marks list : List ℕ) (budget : ℕ)
    → HandsOut marks list (dispatch_steps ed bytes s marks list budget) (dispatch ed bytes s marks list budget).handed_out
handed_are ed bytes s marks list budget = go (dispatch_ran ed bytes s marks list budget)
  where
    go : {steps : List (ℕ × StepSaid)} {o : Outcome} → OnlyFreeSteps ed bytes s marks list budget steps o → HandsOut marks list steps o.handed_out
    go (tables_refused h empty e) = rw (empty, e) (hands_none marks list)
    go (marks_refused h short empty e) = rw (empty, e) (hands_none marks list)
    go {steps} {o} (takes_free_steps h enough free number le looks counted) =
        let all = handed_steps free in
        let fits : handed_of o.handed_out ≤ room list = rows_fit free (omega arith) in
        let js = jobs_among steps in
        let so_many : handed_of o.handed_out ≡ length js = omega (arith, all.so_many) in
        let as_many_words : 0 + length (rows_of js) ≡ job_words * handed_of o.handed_out = omega (arith, so_many, rows_length js) in
        record {
          their_number = so_many;
          in_order = all_named steps;
          rows =
              all.words
              ∙ sets-eq (rows_of js) list 0 (omega (arith, fits, so_many, rows_length js))
              ∙ ap (λ (n : ℕ). rows_of js ++ drop n list) as_many_words;
          within = fits;
          marks_set = all.marks;
        }

-- So row k of the list tells the job that is handed out behind k others,
pub row_tells :
    {marks list : List ℕ} {steps : List (ℕ × StepSaid)} {d : Desk} → HandsOut marks list steps d → (before behind : List Job) (j : Job)
    → jobs_among steps ≡ before ++ (j ∷ behind)
    → (get_or (list_of d) (job_words * length before) 0 ≡ j.vertex)
    × (get_or (list_of d) (job_words * length before + 1) 0 ≡ j.number)
    × (get_or (list_of d) (job_words * length before + 2) 0 ≡ j.offset)
unfolding rows_of
row_tells {list = list} {d = d} h before behind j e =
    (at 0 (omega (arith, rows_length before)), at 1 (omega (arith, rows_length before)), at 2 (omega (arith, rows_length before)))
  where
    row : List ℕ
    row = j.vertex ∷ j.number ∷ j.offset ∷ (rows_of behind ++ drop (job_words * handed_of d) list)

    words : list_of d ≡ rows_of before ++ row
    words =
        h.rows
        ∙ ap (λ (js : List Job). rows_of js ++ drop (job_words * handed_of d) list) e
        ∙ ap (λ (l : List ℕ). l ++ drop (job_words * handed_of d) list) (rows_append before (j ∷ behind))
        ∙ append_assoc (rows_of before) _ _

    at : {i : ℕ} (w : ℕ) → i ≡ length (rows_of before) + w → get_or (list_of d) i 0 ≡ get_or row w 0
    at w q = ap₂ (λ (l : List ℕ) (n : ℕ). get_or l n 0) words q ∙ get_or-append-add (rows_of before) row w 0

-- and the words behind these rows are what they were.
pub rest_stays :
    {marks list : List ℕ} {steps : List (ℕ × StepSaid)} {d : Desk} → HandsOut marks list steps d → (i : ℕ) → job_words * handed_of d ≤ i
    → get_or (list_of d) i 0 ≡ get_or list i 0
rest_stays {list = list} {steps} {d} h i le =
    let k = job_words * handed_of d in
    let rows = rows_of (jobs_among steps) in
    let all : length rows ≡ k = omega (arith, h.their_number, rows_length (jobs_among steps)) in
    let here : i ≡ length rows + (i - k) = omega arith in
    ap₂ (λ (l : List ℕ) (n : ℕ). get_or l n 0) h.rows here
    ∙ get_or-append-add rows (drop k list) (i - k) 0
    ∙ get_or-drop k list (i - k) 0
    ∙ ap (λ (n : ℕ). get_or list n 0) (omega arith)

-- THE MARKS

-- a vertex of these jobs
abbrev pub HasJob : ℕ → List Job → Type 0
HasJob v js = (j : Job) × In j js × (j.vertex ≡ v)

-- a number is below another, or not
pub below? : (i n : ℕ) → (i < n) ⊎ (n ≤ i)
below? i n = ⊎_elim (λ h. inl (ltb-true i n h)) (λ h. inr (ltb-false i n h)) (decide (ltb i n))

-- one mark more
one_mark : (marks : List ℕ) (u v : ℕ) → (get_or (marked marks u) v 0 ≡ get_or marks v 0) ⊎ ((get_or (marked marks u) v 0 ≡ 1) × (u ≡ v))
one_mark marks u v =
    ⊎_elim
    (λ e.
    ⊎_elim (λ lt. inr (subst (λ (w : ℕ). get_or (set marks u 1) w 0 ≡ 1) e (get_or-set_same marks u 1 0 lt), e))
    (λ ge. inl (ap (λ (l : List ℕ). get_or l v 0) (set_out marks u 1 ge)))
    (below? u (length marks)))
    (λ ne. inl (get_or-set_other marks u v 1 0 (λ e. ne (sym e))))
    (equal? u v)

-- a mark is what it was, or it is 1 and one of these jobs is its vertex's
pub mark_cases :
    (marks : List ℕ) (js : List Job) (v : ℕ)
    → (get_or (marked_by marks js) v 0 ≡ get_or marks v 0) ⊎ ((get_or (marked_by marks js) v 0 ≡ 1) × HasJob v js)
unfolding marked_by
mark_cases marks [] v = inl refl
mark_cases marks (j ∷ js) v =
    ⊎_elim
    (λ same. ⊎_elim (λ q. inl (same ∙ q)) (λ (one, e). inr (same ∙ one, (j, here, e))) (one_mark marks j.vertex v))
    (λ (one, (k, i, e)). inr (one, (k, later i, e)))
    (mark_cases (marked marks j.vertex) js v)

-- a vertex whose mark is what it was, or is 1, is busy if it was
stays_busy : (x y : ℕ) → (y ≡ x) ⊎ (y ≡ 1) → not (eqb x 0) ≡ true → not (eqb y 0) ≡ true
stays_busy x y (inl e) h = subst (λ (z : ℕ). not (eqb z 0) ≡ true) (sym e) h
stays_busy x y (inr e) h = subst (λ (z : ℕ). not (eqb z 0) ≡ true) (sym e) refl

pub mark_stays : (marks : List ℕ) (js : List Job) (v : ℕ) → is_busy marks v ≡ true → is_busy (marked_by marks js) v ≡ true
mark_stays marks js v h =
    stays_busy (get_or marks v 0) (get_or (marked_by marks js) v 0) (⊎_elim (λ e. inl e) (λ (one, k). inr one) (mark_cases marks js v)) h

-- and that vertex is busy then, if it has a mark
pub mark_set : (marks : List ℕ) (js : List Job) (j : Job) → In j js → j.vertex < length marks → is_busy (marked_by marks js) j.vertex ≡ true
unfolding marked_by
mark_set marks [] j i lt = in_none i
mark_set marks (k ∷ js) j i lt =
    in_cases i
    (λ e.
    mark_stays (marked marks k.vertex) js j.vertex
    (subst (λ (u : ℕ). is_busy (marked marks u) j.vertex ≡ true) (ap (λ (x : Job). x.vertex) e)
    (ap (λ (x : ℕ). not (eqb x 0)) (get_or-set_same marks j.vertex 1 0 lt))))
    (λ l. mark_set (marked marks k.vertex) js j l (subst (λ (n : ℕ). j.vertex < n) (sym (length-set marks k.vertex 1)) lt))

-- a job that a step answers
job_from_lem : (v : ℕ) (a : StepSaid) (j : Job) → In j (job_from v a) → (j.vertex ≡ v) × (a ≡ job j.number j.offset)
unfolding job_from
job_from_lem v (job n o) j i = in_cases i (λ e. (ap (λ (k : Job). k.vertex) e, ap (λ (k : Job). job k.number k.offset) (sym e))) (λ k. in_none k)
job_from_lem v start j i = in_none i
job_from_lem v (new t) j i = in_none i
job_from_lem v (edge a b) j i = in_none i
job_from_lem v (release t) j i = in_none i
job_from_lem v (transfer t) j i = in_none i
job_from_lem v stop j i = in_none i
job_from_lem v yield j i = in_none i
job_from_lem v (refused n p) j i = in_none i

-- a job among steps is the answer of one of them
job_among : (steps : List (ℕ × StepSaid)) (j : Job) → In j (jobs_among steps) → In (j.vertex, job j.number j.offset) steps
unfolding jobs_among
job_among [] j i = in_none i
job_among (x ∷ steps) j i =
    ⊎_elim
    (λ k.
    let (e, f) = job_from_lem x.0 x.1 j k in
    subst (λ (y : ℕ × StepSaid). In y (x ∷ steps)) (λ i. (sym e i, f i)) here)
    (λ k. later (job_among steps j k))
    (in_either (job_from x.0 x.1) i)

-- Marks are only set, to 1, where a step answered a job.
pub marks_only_set :
    (ed : Edition) (bytes : List ℕ) (s : Lent) (marks list : List ℕ) (budget : ℕ)
    → OnlySet marks (dispatch_steps ed bytes s marks list budget) (marks_of (dispatch ed bytes s marks list budget).handed_out)
marks_only_set ed bytes s marks list budget =
    subst (OnlySet marks steps) (sym (handed_are ed bytes s marks list budget).marks_set)
    (record {
      none_cleared = mark_stays marks (jobs_among steps);
      at_jobs =
          λ v.
          ⊎_elim inl
          (λ (one, (j, i, e)).
          inr (one, (j.number, j.offset, subst (λ (u : ℕ). In (u, job j.number j.offset) steps) e (job_among steps j i))))
          (mark_cases marks (jobs_among steps) v);
    })
  where
    steps : List (ℕ × StepSaid)
    steps = dispatch_steps ed bytes s marks list budget

-- BUSY VERTICES

-- a vertex that is busy is left alone by all of these steps
free_leave :
    {ed : Edition} {bytes : List ℕ} {s s' : Lent} {d d' : Desk} {steps : List (ℕ × StepSaid)} (v : ℕ) → FreeSteps ed bytes s d steps s' d'
    → is_busy (marks_of d) v ≡ true → LeftAlone v s s' steps
free_leave v no_turn h = record { not_stepped = λ a i. in_none i; same_own = λ lt. refl }
free_leave {ed} {bytes} {s} {d = d} v (turn u low row more) h =
    let a = (step ed bytes s u).answer in
    let other : v ≡ u → ⊥ = λ e. true-false h (ap (is_busy (marks_of d)) e ∙ low.not_busy) in
    let busy_still : is_busy (marks_of (hand_out u a d)) v ≡ true =
    subst (λ (m : List ℕ). is_busy m v ≡ true) (sym (handed_answer u a d).marks) (mark_stays (marks_of d) (job_from u a) v h)
    in
    let rest = free_leave v more busy_still in
    record {
      not_stepped = λ b i. in_cases i (λ e. other (ap (λ (x : ℕ × StepSaid). x.0) e)) (λ k. rest.not_stepped b k);
      same_own = λ lt. let (still, same) = step_else ed bytes s u v other lt in rest.same_own still ∙ same;
    }

-- A vertex that is busy when a dispatch begins is not stepped, and its own words stay.
pub left_alone :
    (ed : Edition) (bytes : List ℕ) (s : Lent) (marks list : List ℕ) (budget v : ℕ) → is_busy marks v ≡ true
    → LeftAlone v s (dispatch ed bytes s marks list budget).after (dispatch_steps ed bytes s marks list budget)
left_alone ed bytes s marks list budget v h = go (dispatch_ran ed bytes s marks list budget)
  where
    go : {steps : List (ℕ × StepSaid)} {o : Outcome} → OnlyFreeSteps ed bytes s marks list budget steps o → LeftAlone v s o.after steps
    go (tables_refused k empty e) = rw (empty, e) (free_leave {ed = ed} {bytes = bytes} {d = desk marks list 0} v no_turn h)
    go (marks_refused k short empty e) = rw (empty, e) (free_leave {ed = ed} {bytes = bytes} {d = desk marks list 0} v no_turn h)
    go (takes_free_steps k enough free number le looks counted) = free_leave v free h
