-- A step on an index of the edges: one law for each path through the code, told of every edge table that may be lent.
--
--     own_command              a command that is due at the step of an executing vertex is its own, and no start
--     refused_on, job_on       a refusal or a job is due
--     turned_on, taken_on      a command is due, and refused or taken
--     stored_ready             row and count behind a command that is taken
--     due_on, steps_on         what is due there, and a step that does it
--     started_on               a released vertex that may step is started
use Prim.Native.Nat.{ℕ, ◌+◌, ◌*◌, ◌<◌}
use mathlib.Core.Path.{◌≡◌, refl, sym, ◌∙◌, ap, subst}
use mathlib.Core.Bool.{Bool, true, false, not}
use mathlib.Core.List.{List, []}
use mathlib.Core.Logic.{inl, ⊎_elim}
use native.Mathlib.Omega.{arith}
use lib.Dec.{eqb}
use lib.Seq.{get_or-set_other}
use borrow.Author.Tests.{eq-eqb, not-true, not-false}
use Rattle.refusal.specs.declared.Reason.{Reason}
use Rattle.graph.specs.Tests.{both, either}
use Rattle.graph.specs.Tables.{Lent, lent, RELEASED, EXECUTING, vertex_words, status_word, in_count_word, vertex_rows, edge_rows}
use Rattle.graph.specs.Tables.{status, in_count, set_status}
use Rattle.graph.specs.Sound.{sound}
use Rattle.graph.specs.Answers as of_graph
use Rattle.graph.specs.Commands.{command}
use Rattle.graph.specs.Internal.Checks.{is_start}
use Rattle.graph.specs.declared.Command as single
use Rattle.graph.specs.declared.Command.TheVariants.{Start}
use Rattle.graph.specs.declared.Done as graph_done
use Rattle.graph.proofs.TestLaws.{true-false, equal?}
use Rattle.graph.proofs.SoundLaws.{sound_tally}
use Rattle.graph.proofs.TakenLaws.{leaves, not_refused, after_is}
use Rattle.graph.proofs.Demand2.{refused_keeps}
use Rattle.index.specs.declared.Course.{Course}
use Rattle.index.specs.declared.Changed.{Changed}
use Rattle.index.specs.Layout.{Indexed}
use Rattle.index.specs.Table.{live_rows, table_of}
use Rattle.index.specs.Underway.{state_of, Ready, caller_of, Executes, may_step, Widens, Changes}
use Rattle.program.specs.declared.Edition.{Edition}
use Rattle.machine.specs.Answers.{StepSaid, accepted, one_step, said_as}
use Rattle.machine.specs.Stepping as machine
use Rattle.machine.specs.Stepping.{step_limit, phase, all_stand, Task, item, ends, nothing, own_of, Due, refusal_due, job_due, command_due, due_if}
use Rattle.machine.specs.Stepping.{filled_in, next_of, next_at, stored, with_own, step}
use Rattle.machine.specs.Traces.{Stepped}
use Rattle.machine.proofs.TablesFollow.OwnLaws.{own_adds, status_not_own, count_not_own, leaves_stored}
use Rattle.machine.proofs.TablesFollow.StepLaws.{steppable_of, step_is, start_due_lem, due_start, due_executing}
use Rattle.machine.proofs.StepDemand2.{said_accepted, command-step, released_step}
use Rattle.machine.proofs.LookLaws.{step-sound}
use Rattle.engine.specs.declared.Own.{Own}
use Rattle.engine.specs.declared.Answer.{Answer}
use Rattle.engine.specs.declared.Answer.TheVariants as of_answer
use Rattle.engine.specs.declared.Due as code
use Rattle.engine.specs.declared.Due.TheVariants as of_due
use Rattle.walks.specs.declared.Moved.{Moved}
use Rattle.engine.specs.Answers.{said, own_words, due_of}
use Rattle.engine.specs.Internal.Underway.{IsDue, is_due, DoesDue, DueThere}
use Rattle.walks.specs.Internal.Walking.{DueOn, DoesOn, StepsOn}
use Rattle.engine.proofs.DueLaws.{due_there}
use Rattle.looks.proofs.OwnDue.{table_with, rows_with, rows_there, may_cases, OwnCommand, own_task}
use Rattle.engine.proofs.StepIs.{refused_path, job_path, turned_path, taken_ready, taken_path}

-- a course one step further
abbrev Counted : Course → Course → Type 0
Counted k k' =
    (k'.tally.made ≡ k.tally.made) × (k'.tally.held ≡ k.tally.held) × (k'.tally.steps ≡ k.tally.steps + 1) × (k'.used ≡ k.used)
    × (k'.peak ≡ k.peak)

-- the index stands for the same edge table
same_table : (x e : List ℕ) (k k' : Course) → Counted k k' → table_of x k.used k.peak e ≡ table_of x k'.used k'.peak e
same_table x e k k' h = λ i. table_of x (sym h.3 i) (sym h.4 i) e

-- and goes on, where the tables are sound
ready_counted :
    {v v' x : List ℕ} {k k' : Course} {limit : ℕ} → Ready v x k limit → Counted k k'
    → ((e : List ℕ) → edge_rows e ≡ limit → sound (state_of v' x k' e) ≡ true) → Ready v' x k' limit
ready_counted {x = x} {limit = limit} ready h known =
    record {
      indexed = subst (Indexed x) (sym h.3) ready.indexed;
      live = h.1 ∙ ready.live ∙ ap (live_rows x) (sym h.3);
      below_peak = rw h.1 (rw h.4 ready.below_peak);
      within = rw h.4 ready.within;
      few = ready.few;
      sound = known;
    }

-- A COMMAND THAT IS DUE
-- at the step of an executing vertex is its own, and no start
own_due :
    (s : Lent) (t : ℕ) {d : Due} → sound s ≡ true → s.steps < step_limit → t < s.made → status s.vertices t ≡ EXECUTING → IsDue s t d
    → OwnCommand t d
own_due s t known early made runs (is_due ed bytes same) =
    subst (OwnCommand t) (sym (same ∙ due_executing ed bytes s t (steppable_of s known early) made runs)) (own_task s t _)

-- WHO MAY STEP
-- own words stored leave a vertex's status and its number of edges in, so who may step
stored_may : (v : List ℕ) (t : ℕ) (w : machine.Own) (u : ℕ) → t < vertex_rows v → may_step (stored v t w) u ≡ may_step v u
unfolding may_step
stored_may v t w u lt =
    let else = (own_adds (record { vertices = v; edges = []; made = 0; held = 0; steps = 0 }) t w lt).same_vertex_words.1 in
    let same_status : status (stored v t w) u ≡ status v u = else (vertex_words * u + status_word) (status_not_own t u) in
    let same_count : in_count (stored v t w) u ≡ in_count v u = else (vertex_words * u + in_count_word) (count_not_own t u) in
    λ i. either (eqb (same_status i) EXECUTING) (both (eqb (same_status i) RELEASED) (eqb (same_count i) 0))

-- a vertex turned executing leaves who may step among the others
turned_may : (v : List ℕ) (t u : ℕ) → (u ≡ t → ⊥) → may_step (set_status v t EXECUTING) u ≡ may_step v u
unfolding may_step
turned_may v t u other =
    let same_status : status (set_status v t EXECUTING) u ≡ status v u =
    get_or-set_other v (vertex_words * t + status_word) (vertex_words * u + status_word) EXECUTING 0 (λ q. other (omega arith)) in
    let same_count : in_count (set_status v t EXECUTING) u ≡ in_count v u =
    get_or-set_other v (vertex_words * t + status_word) (vertex_words * u + in_count_word) EXECUTING 0 (omega arith) in
    λ i. either (eqb (same_status i) EXECUTING) (both (eqb (same_status i) RELEASED) (eqb (same_count i) 0))

-- WHAT IS DONE
-- what is done keeps the tables sound
does_sound :
    {s after : Lent} {t : ℕ} {d : Due} {a : StepSaid} → sound s ≡ true → IsDue s t d → DoesDue s t d a after → sound after ≡ true
does_sound {s} {t = t} known (is_due ed bytes same) does = ap sound (does ed bytes same).leaves ∙ step-sound ed bytes s t known

-- at the step of an executing vertex
module _ {v x : List ℕ} {k : Course} {limit t : ℕ} (ready : Ready v x k limit) (runs : Executes v k t) (d : code.Due)
    (due_here : DueOn v x k limit t (due_of d)) where
  -- a refusal
  pub refused_on :
      (n : Reason) {low high : ℕ} → d ≡ of_due.Refused n
      → DoesOn v x k limit t (due_of d)
      (record { answer = of_answer.Refused (record { reason = n; place = 0 }); course = k; lowest = low; highest = high })
      v
      x
  refused_on n is =
      record {
        does = λ e rows. refused_path (state_of v x k e) t n d is;
        ready = ready;
        widens = λ u lt may. inl (lt, may);
        turned = λ no. (refl, refl);
      }

  -- own words stored behind what left v₁ and x₁, and a step counted
  stored_on :
      (v₁ x₁ : List ℕ) (k₁ : Course) (low high : ℕ) → Ready v₁ x₁ k₁ limit → Widens v k.tally.made v₁ k₁.tally.made low high
      → (w : Own) (v' : List ℕ) (k' : Course) (a : Answer) → accepted (said a) ≡ true → t < vertex_rows v₁ → v' ≡ stored v₁ t (own_words w)
      → Counted k₁ k'
      → ((e : List ℕ) → edge_rows e ≡ limit
      → DoesDue (state_of v x k e) t (due_of d) (said a) (lent v' (table_of x₁ k₁.used k₁.peak e) k'.tally))
      → DoesOn v x k limit t (due_of d) (record { answer = a; course = k'; lowest = low; highest = high }) v' x₁
  stored_on v₁ x₁ k₁ low high ready₁ widens₁ w v' k' a taken row words counted h =
      record {
        does = done;
        ready = ready_counted ready₁ counted (λ e rows. does_sound (ready.sound e rows) (due_here e rows) (done e rows));
        widens =
            λ u lt may.
            widens₁ u (subst (λ (n : ℕ). u < n) counted.0 lt)
            (sym (ap (λ (l : List ℕ). may_step l u) words ∙ stored_may v₁ t (own_words w) u row) ∙ may);
        turned = λ no. true-false taken no;
      }
    where
      done : (e : List ℕ) → edge_rows e ≡ limit → DoesDue (state_of v x k e) t (due_of d) (said a) (state_of v' x₁ k' e)
      done e rows =
          subst (λ (l : List ℕ). DoesDue (state_of v x k e) t (due_of d) (said a) (lent v' l k'.tally)) (same_table x₁ e k₁ k' counted)
          (h e rows)

  -- a job
  pub job_on :
      (n p : ℕ) (w : Own) → d ≡ of_due.Job n p w → (v' : List ℕ) (k' : Course) {low high : ℕ} → v' ≡ stored v t (own_words w) → Counted k k'
      → DoesOn v x k limit t (due_of d) (record { answer = of_answer.Job n p; course = k'; lowest = low; highest = high }) v' x
  job_on n p w is v' k' {low} {high} words counted =
      stored_on v x k low high ready (λ u lt may. inl (lt, may)) w v' k' (of_answer.Job n p) refl (omega (arith, rows_there ready, runs.0)) words
      counted
      (λ e rows.
      job_path v (table_of x k.used k.peak e) k.tally t n p w d is v' k'.tally words (counted.0, counted.1, counted.2))

  -- a command
  module _ (c : single.Command) (w : Own) (is : d ≡ of_due.Command c w) where
    -- it is the vertex's own, and no start
    pub own_command : k.tally.steps < step_limit → Executes v k (caller_of c) × (is_start c ≡ false)
    own_command early =
        let rows : edge_rows (table_with limit) ≡ limit = rows_with limit ready.few in
        let s : Lent = state_of v x k (table_with limit) in
        let own : OwnCommand t (due_of d) = own_due s t (ready.sound _ rows) early runs.0 runs.1 (due_here _ rows) in
        let told : OwnCommand t (command_due c (own_words w)) = subst (OwnCommand t) (ap due_of is) own in
        (subst (λ (u : ℕ). Executes v k u) (sym told.0) runs, told.1)

    -- that left this
    module _ {v₁ x₁ : List ℕ} (r : Changed) (changed : Changes c v x k limit r v₁ x₁) (b : Bool)
        (told : b ≡ not (of_graph.accepted (of_graph.said r.answer))) where
      abbrev done : graph_done.Done
      done = record { answer = r.answer; tally = r.course.tally }

      -- it was refused
      kept : (e : List ℕ) → edge_rows e ≡ limit → b ≡ true → state_of v₁ x₁ r.course e ≡ state_of v x k e
      kept e rows h =
          let left = changed.does e rows in
          let no : of_graph.accepted (command c (state_of v x k e)).answer ≡ false =
          ap (λ (o : of_graph.Outcome of_graph.CommandSaid). of_graph.accepted o.answer) (sym left) ∙ not-true _ (sym told ∙ h)
          in
          ap (λ (o : of_graph.Outcome of_graph.CommandSaid). o.after) left ∙ refused_keeps c (state_of v x k e) no

      pub turned_on :
          (a : Answer) {low high : ℕ} → b ≡ true → said a ≡ said_as (of_graph.said r.answer)
          → DoesOn v x k limit t (due_of d) (record { answer = a; course = r.course; lowest = low; highest = high }) v₁ x₁
      turned_on a h q =
          let same = kept (table_with limit) (rows_with limit ready.few) h in
          record {
            does =
                λ e rows.
                turned_path v (table_of x k.used k.peak e) k.tally t c w d is v₁ (table_of x₁ r.course.used r.course.peak e) done
                (changed.does e rows) b told (said a) h q;
            ready = changed.ready;
            widens =
                λ u lt may.
                inl
                (subst (λ (n : ℕ). u < n) (ap (λ (s : Lent). s.made) same) lt, ap (λ (s : Lent). may_step s.vertices u) (sym same) ∙ may);
            turned = λ no. changed.turned (not-true _ (sym told ∙ h));
          }

      -- it was taken: row and count behind it
      pub stored_ready : (t < vertex_rows v₁) × (r.course.tally.steps < step_limit)
      stored_ready =
          let rows : edge_rows (table_with limit) ≡ limit = rows_with limit ready.few in
          taken_ready v (table_of x k.used k.peak (table_with limit)) k.tally t c w d is v₁
          (table_of x₁ r.course.used r.course.peak (table_with limit)) done (changed.does _ rows) b told (due_here _ rows)

      pub taken_on :
          (a : Answer) (v' : List ℕ) (k' : Course) → b ≡ false → said a ≡ said_as (of_graph.said r.answer) → v' ≡ stored v₁ t (own_words w)
          → Counted r.course k'
          → DoesOn v x k limit t (due_of d) (record { answer = a; course = k'; lowest = r.lowest; highest = r.highest }) v' x₁
      taken_on a v' k' h q words counted =
          stored_on v₁ x₁ r.course r.lowest r.highest changed.ready changed.widens w v' k' a
          (ap accepted q ∙ said_accepted (of_graph.said r.answer) ∙ not-false _ (sym told ∙ h)) stored_ready.0 words counted
          (λ e rows.
          taken_path v (table_of x k.used k.peak e) k.tally t c w d is v₁ (table_of x₁ r.course.used r.course.peak e) done
          (changed.does e rows) b told (said a) v' k'.tally h q words (counted.0, counted.1, counted.2))

-- A STEP
-- of an executing vertex: what is due there, and that it was done
module _ (ed : Edition) (bytes : List ℕ) {v x : List ℕ} {k : Course} {limit t : ℕ} {d : Due} (ready : Ready v x k limit)
    (early : k.tally.steps < step_limit) (runs : Executes v k t) (there : DueThere ed bytes v k.tally.made t d) where
  due_at : (e : List ℕ) → edge_rows e ≡ limit → d ≡ machine.due ed bytes (state_of v x k e) t
  due_at e rows = due_there ed bytes (state_of v x k e) t (ready.sound e rows) early runs.0 runs.1 there

  pub due_on : DueOn v x k limit t d
  due_on e rows = is_due ed bytes (due_at e rows)

  pub steps_on : {r : Moved} {v' x' : List ℕ} → DoesOn v x k limit t d r v' x' → StepsOn ed bytes v x k limit t r v' x'
  steps_on done =
      record {
        steps = λ e rows. done.does e rows ed bytes (due_at e rows);
        ready = done.ready;
        widens = done.widens;
        turned = done.turned;
      }

-- of a released one: it is started
module _ (ed : Edition) (bytes : List ℕ) (s : Lent) (t : ℕ) (known : sound s ≡ true) (early : s.steps < step_limit) (made : t < s.made)
    (released : status s.vertices t ≡ RELEASED) (free : in_count s.vertices t ≡ 0) where
  start_here : machine.due ed bytes s t ≡ command_due (Start t) (own_of s t)
  start_here = due_start ed bytes s t (start_due_lem s t (sound_tally s known) early made released)

  start_says : (step ed bytes s t).answer ≡ StepSaid.start
  start_says = released_step ed bytes s t (sound_tally s known) early made released ∙ rw (eq-eqb (in_count s.vertices t) 0 free) refl

  start_leaves : (step ed bytes s t).after ≡ one_step (leaves (Start t) s)
  start_leaves =
      let yes : of_graph.accepted (command (Start t) s).answer ≡ true =
      sym (command-step ed bytes s t (Start t) (own_of s t) start_here) ∙ ap accepted start_says
      in
      ap (λ (o : of_graph.Outcome StepSaid). o.after) (step_is ed bytes s t start_here)
      ∙ rw yes
      (ap (λ (z : Lent). one_step (with_own z t (own_of s t))) (after_is (Start t) s (not_refused (Start t) s yes))
      ∙ ap one_step (leaves_stored (Start t) s t made))

pub started_on :
    (ed : Edition) (bytes : List ℕ) {v x : List ℕ} {k : Course} {limit t : ℕ} {low high : ℕ} → Ready v x k limit → k.tally.steps < step_limit
    → t < k.tally.made → may_step v t ≡ true → status v t ≡ RELEASED → (v' : List ℕ) (k' : Course) → v' ≡ set_status v t EXECUTING → Counted k k'
    → StepsOn ed bytes v x k limit t (record { answer = of_answer.Start; course = k'; lowest = low; highest = high }) v' x
started_on ed bytes {v} {x} {k} {limit} {t} ready early made may released v' k' turned counted =
    record {
      steps = steps;
      ready =
          ready_counted ready counted
          (λ e rows. ap sound (steps e rows).leaves ∙ step-sound ed bytes (state_of v x k e) t (ready.sound e rows));
      widens =
          λ u lt h.
          inl (
            subst (λ (n : ℕ). u < n) counted.0 lt,
            ⊎_elim (λ q. subst (λ (y : ℕ). may_step v y ≡ true) (sym q) may)
                (λ other. sym (ap (λ (l : List ℕ). may_step l u) turned ∙ turned_may v t u other) ∙ h)
                (equal? u t),
          );
      turned = λ no. true-false refl no;
    }
  where
    free : in_count v t ≡ 0
    free = ⊎_elim (λ h. absurd (omega arith)) (λ h. h.1) (may_cases v t may)

    steps : (e : List ℕ) → edge_rows e ≡ limit → Stepped ed bytes (state_of v x k e) t StepSaid.start (state_of v' x k' e)
    steps e rows =
        let s : Lent = state_of v x k e in
        record {
          says = sym (start_says ed bytes s t (ready.sound e rows) early made released free);
          leaves =
              (λ i.
              record {
                vertices = turned i;
                edges = sym (same_table x e k k' counted) i;
                made = counted.0 i;
                held = counted.1 i;
                steps = counted.2 i;
              })
              ∙ sym (start_leaves ed bytes s t (ready.sound e rows) early made released free);
        }
