-- What a step leaves, from what is due: one law for each path through the code, which does it as machine's `do_due` says.
--
--     job_ready, command_ready      where a job or a command is due, the vertex's row lies in the table and a step may be counted; the
--                                   tables are sound, or the command is a start
--     taken_ready                   row and count behind a command that is taken
--     refused_path                  a refusal is due
--     job_path                      a job is due
--     turned_path, taken_path       a command is due, and refused or taken
--     start_ready                   where a start is due, its step may be counted
--     start_turned, start_taken     it is refused or taken, and stores none of the vertex's own words
use Prim.Native.Nat.{ℕ, ◌+◌, ◌<◌}
use mathlib.Core.Path.{◌≡◌, refl, sym, ◌∙◌, ap, subst}
use mathlib.Core.Bool.{Bool, true, false, not}
use mathlib.Core.List.{List, []}
use lib.ListN.{length}
use borrow.Author.Tests.{not-true, not-false}
use Rattle.graph.specs.Tests.{either}
use Rattle.graph.specs.Tables.{Lent, lent, vertex_rows}
use Rattle.graph.specs.Sound.{sound}
use Rattle.graph.specs.Internal.Checks.{is_start}
use Rattle.graph.specs.Answers as of_graph
use Rattle.graph.specs.Commands.{start, command}
use Rattle.graph.specs.declared.Tally.{Tally}
use Rattle.graph.specs.declared.Done.{Done}
use Rattle.graph.specs.declared.Command.{Command}
use Rattle.graph.specs.declared.Command.TheVariants.{Start}
use Rattle.graph.specs.Answers.{Outcome}
use Rattle.graph.proofs.TakenLaws.{not_refused, after_is}
use Rattle.graph.proofs.TakenLaws as of_taken
use Rattle.graph.proofs.Demand2.{refused_keeps, words_stay}
use Rattle.refusal.specs.declared.Reason.{Reason}
use Rattle.refusal.specs.Reasons.{number}
use Rattle.program.specs.declared.Edition.{Edition}
use Rattle.program.specs.declared.Edition.TheVariants.{First}
use Rattle.machine.specs.Answers.{StepSaid, accepted, one_step, said_as}
use Rattle.machine.specs.Stepping as machine
use Rattle.machine.specs.Stepping.{step_limit, start_due, own_of, Due, due, stored, with_own, do_due}
use Rattle.machine.specs.Traces.{Stepped}
use Rattle.machine.proofs.TablesFollow.OwnLaws.{leaves_stored}
use Rattle.machine.proofs.TablesFollow.StepLaws.{step_is, due_start}
use Rattle.machine.proofs.StepDemand2.{Ready, ReadyFor, ready_due}
use Rattle.engine.specs.declared.Own.{Own}
use Rattle.engine.specs.declared.Due as code
use Rattle.engine.specs.declared.Due.TheVariants as of_due
use Rattle.engine.specs.Answers.{own_words, due_of}
use Rattle.engine.specs.Internal.Underway.{IsDue, is_due, DoesDue, Starts}

-- a step is what is due, done
stepped :
    (ed : Edition) (bytes : List ℕ) (s : Lent) (k : ℕ) {d : Due} {a : StepSaid} {after : Lent} → due ed bytes s k ≡ d → a ≡ (do_due s k d).answer
    → after ≡ (do_due s k d).after → Stepped ed bytes s k a after
stepped ed bytes s k e p q =
    record {
      says = p ∙ sym (ap (λ (o : Outcome StepSaid). o.answer) (step_is ed bytes s k e));
      leaves = q ∙ sym (ap (λ (o : Outcome StepSaid). o.after) (step_is ed bytes s k e));
    }

-- own words stored, and a step counted
stored_counted :
    (v e : List ℕ) (t t' : Tally) (v' : List ℕ) (k : ℕ) (w : machine.Own) → v' ≡ stored v k w
    → (t'.made ≡ t.made) × (t'.held ≡ t.held) × (t'.steps ≡ t.steps + 1) → lent v' e t' ≡ one_step (with_own (lent v e t) k w)
stored_counted v e t t' v' k w h c =
    λ i. record { vertices = h i; edges = e; made = c.0 i; held = c.1 i; steps = c.2 i }

-- where something is due
ready_is : {s : Lent} {v : ℕ} {d : Due} → IsDue s v d → ReadyFor s v d
ready_is {s} {v} {d} (is_due ed bytes same) = subst (λ (x : Due). ReadyFor s v x) (sym same) (ready_due ed bytes s v)

-- a refusal is due
pub refused_path : (s : Lent) (k : ℕ) (r : Reason) (d : code.Due) → d ≡ of_due.Refused r → DoesDue s k (due_of d) (StepSaid.refused (number r) 0) s
refused_path s k r d is ed bytes same = stepped ed bytes s k (sym same ∙ ap due_of is) refl refl

-- a job is due
module _ (v e : List ℕ) (t : Tally) (k n p : ℕ) (w : Own) (d : code.Due) (is : d ≡ of_due.Job n p w) where
  pub job_ready : IsDue (lent v e t) k (due_of d) → Ready (lent v e t) k (sound (lent v e t))
  unfolding ReadyFor
  job_ready h = subst (λ (x : Due). ReadyFor (lent v e t) k x) (ap due_of is) (ready_is h)

  pub job_path :
      (v' : List ℕ) (t' : Tally) → v' ≡ stored v k (own_words w)
      → (t'.made ≡ t.made) × (t'.held ≡ t.held) × (t'.steps ≡ t.steps + 1)
      → DoesDue (lent v e t) k (due_of d) (StepSaid.job n p) (lent v' e t')
  job_path v' t' words counted ed bytes same =
      stepped ed bytes (lent v e t) k (sym same ∙ ap due_of is) refl (stored_counted v e t t' v' k (own_words w) words counted)

-- a command is due
module _ (v e : List ℕ) (t : Tally) (k : ℕ) (c : Command) (w : Own) (d : code.Due) (is : d ≡ of_due.Command c w) where
  pub command_ready : IsDue (lent v e t) k (due_of d) → Ready (lent v e t) k (either (is_start c) (sound (lent v e t)))
  unfolding ReadyFor
  command_ready h = subst (λ (x : Due). ReadyFor (lent v e t) k x) (ap due_of is) (ready_is h)

-- as a step says it, a command is refused where it is
said_accepted : (x : of_graph.CommandSaid) → accepted (said_as x) ≡ of_graph.accepted x
said_accepted of_graph.start = refl
said_accepted (of_graph.new v) = refl
said_accepted (of_graph.edge a b) = refl
said_accepted (of_graph.release v) = refl
said_accepted (of_graph.transfer v) = refl
said_accepted of_graph.stop = refl
said_accepted of_graph.yield = refl
said_accepted (of_graph.refused n p) = refl

pub refused_told : {a : StepSaid} (x : of_graph.CommandSaid) {b : Bool} → b ≡ not (accepted a) → a ≡ said_as x → b ≡ not (of_graph.accepted x)
refused_told x p q = p ∙ ap (λ (y : StepSaid). not (accepted y)) q ∙ ap not (said_accepted x)

-- a command that left this
module _ (v e : List ℕ) (t : Tally) (k : ℕ) (c : Command) (v' e' : List ℕ) (done : Done)
    (left : of_graph.outcome done v' e' ≡ command c (lent v e t)) (b : Bool)
    (told : b ≡ not (of_graph.accepted (of_graph.said done.answer))) where
  says : of_graph.said done.answer ≡ (command c (lent v e t)).answer
  says = ap (λ (o : Outcome of_graph.CommandSaid). o.answer) left

  leaves : lent v' e' done.tally ≡ (command c (lent v e t)).after
  leaves = ap (λ (o : Outcome of_graph.CommandSaid). o.after) left

  -- the table is as long as it was, and the steps are what they were
  length_stays : length v' ≡ length v
  length_stays = ap (λ (x : Lent). length x.vertices) leaves ∙ (words_stay c (lent v e t)).0.0

  steps_stay : done.tally.steps ≡ t.steps
  steps_stay = ap (λ (x : Lent). x.steps) leaves ∙ (words_stay c (lent v e t)).2

  -- it is taken
  taken : b ≡ false → of_graph.accepted (command c (lent v e t)).answer ≡ true
  taken h = ap of_graph.accepted (sym says) ∙ not-false _ (sym told ∙ h)

  -- it was due, and refused or taken
  module _ (ed : Edition) (bytes : List ℕ) {w : machine.Own} (due_here : due ed bytes (lent v e t) k ≡ machine.command_due c w) (a : StepSaid)
      (q : a ≡ said_as (of_graph.said done.answer)) where
    turned_step : b ≡ true → Stepped ed bytes (lent v e t) k a (lent v' e' done.tally)
    turned_step h =
        let no : of_graph.accepted (command c (lent v e t)).answer ≡ false =
        ap of_graph.accepted (sym says) ∙ not-true _ (sym told ∙ h) in
        stepped ed bytes (lent v e t) k due_here (q ∙ ap said_as says) (rw no (leaves ∙ refused_keeps c (lent v e t) no))

    taken_step :
        (v'' : List ℕ) (t'' : Tally) → b ≡ false → v'' ≡ stored v' k w
        → (t''.made ≡ done.tally.made) × (t''.held ≡ done.tally.held) × (t''.steps ≡ done.tally.steps + 1)
        → Stepped ed bytes (lent v e t) k a (lent v'' e' t'')
    taken_step v'' t'' h words counted =
        stepped ed bytes (lent v e t) k due_here (q ∙ ap said_as says)
        (rw (taken h)
        (stored_counted v' e' done.tally t'' v'' k w words counted ∙ ap (λ (x : Lent). one_step (with_own x k w)) leaves))

-- the same of the code's due
module _ (v e : List ℕ) (t : Tally) (k : ℕ) (c : Command) (w : Own) (d : code.Due) (is : d ≡ of_due.Command c w) (v' e' : List ℕ)
    (done : Done) (left : of_graph.outcome done v' e' ≡ command c (lent v e t)) (b : Bool)
    (told : b ≡ not (of_graph.accepted (of_graph.said done.answer))) where
  pub turned_path :
      (a : StepSaid) → b ≡ true → a ≡ said_as (of_graph.said done.answer)
      → DoesDue (lent v e t) k (due_of d) a (lent v' e' done.tally)
  turned_path a h q ed bytes same = turned_step v e t k c v' e' done left b told ed bytes (sym same ∙ ap due_of is) a q h

  pub taken_ready : IsDue (lent v e t) k (due_of d) → (k < vertex_rows v') × (done.tally.steps < step_limit)
  taken_ready due_here =
      let ready = command_ready v e t k c w d is due_here in
      (rw (length_stays v e t k c v' e' done left b told) ready.0, rw (steps_stay v e t k c v' e' done left b told) ready.1)

  pub taken_path :
      (a : StepSaid) (v'' : List ℕ) (t'' : Tally) → b ≡ false → a ≡ said_as (of_graph.said done.answer) → v'' ≡ stored v' k (own_words w)
      → (t''.made ≡ done.tally.made) × (t''.held ≡ done.tally.held) × (t''.steps ≡ done.tally.steps + 1)
      → DoesDue (lent v e t) k (due_of d) a (lent v'' e' t'')
  taken_path a v'' t'' h q words counted ed bytes same =
      taken_step v e t k c v' e' done left b told ed bytes (sym same ∙ ap due_of is) a q v'' t'' h words counted

-- a start is due, and left this
module _ (v e : List ℕ) (t : Tally) (k : ℕ) (due_here : start_due (lent v e t) k ≡ true) (v' : List ℕ) (done : Done)
    (left : of_graph.outcome done v' e ≡ start (lent v e t) k) (b : Bool)
    (told : b ≡ not (of_graph.accepted (of_graph.said done.answer))) where
  command_left : of_graph.outcome done v' e ≡ command (Start k) (lent v e t)
  unfolding command
  command_left = left

  ready : Ready (lent v e t) k (either (is_start (Start k)) (sound (lent v e t)))
  unfolding ReadyFor
  ready = ready_is (is_due First [] (sym (due_start First [] (lent v e t) k due_here)))

  pub start_ready : done.tally.steps < step_limit
  start_ready = rw (steps_stay v e t k (Start k) v' e done command_left b told) ready.1

  -- the vertex's own words stand there already
  own_stands : b ≡ false → v' ≡ stored v' k (own_of (lent v e t) k)
  own_stands h =
      let s : Lent = lent v e t in
      let same : v' ≡ (of_taken.leaves (Start k) s).vertices =
      ap (λ (x : Lent). x.vertices)
      (leaves v e t k (Start k) v' e done command_left b told
      ∙ after_is (Start k) s (not_refused (Start k) s (taken v e t k (Start k) v' e done command_left b told h)))
      in
      rw same (sym (ap (λ (x : Lent). x.vertices) (leaves_stored (Start k) s k ready.3)))

  pub start_turned :
      (a : StepSaid) → b ≡ true → a ≡ said_as (of_graph.said done.answer) → Starts (lent v e t) k a (lent v' e done.tally)
  start_turned a h q ed bytes =
      turned_step v e t k (Start k) v' e done command_left b told ed bytes (due_start ed bytes (lent v e t) k due_here) a q h

  pub start_taken :
      (a : StepSaid) (t'' : Tally) → b ≡ false → a ≡ said_as (of_graph.said done.answer)
      → (t''.made ≡ done.tally.made) × (t''.held ≡ done.tally.held) × (t''.steps ≡ done.tally.steps + 1)
      → Starts (lent v e t) k a (lent v' e t'')
  start_taken a t'' h q counted ed bytes =
      taken_step v e t k (Start k) v' e done command_left b told ed bytes (due_start ed bytes (lent v e t) k due_here) a q v' t'' h
      (own_stands h) counted
