-- What is due at a step, by the row of its vertex: a refusal, a start, or the next command of the item at its place. What stands at the
-- place is told by the vertex's code (`ItemOf`). The names of a command stand for what the row has, and a force's future for what the words
-- followed come to (FutureLaws).
use Prim.Native.Nat.{ℕ, ◌-◌, ◌<◌, ◌≤◌}
use mathlib.Core.Path.{◌≡◌, refl, ◌∙◌, ap}
use mathlib.Core.Bool.{Bool, true, false, not, cond}
use mathlib.Core.Logic.{◌⊎◌, inl, inr}
use mathlib.Core.List.{List}
use mathlib.Core.Option.{Option, some}
use native.Mathlib.Omega.{arith}
use lib.ListN.{length, get_or}
use borrow.Author.Tests.{lt-ltb, ltb-true, le-ltb, eq-eqb, eqb-true, ne_eqb}
use Rattle.graph.specs.Tests.{both}
use Rattle.graph.specs.Tables.{Lent, NEW, RELEASED, EXECUTING, FINISHED, status}
use Rattle.refusal.specs.Refusals.{unsound_tables, no_such_vertex, vertex_is_new, vertex_is_finished}
use Rattle.graph.specs.Sound.{tally_fits, sound}
use Rattle.graph.specs.Commands.{is_made, has_status}
use Rattle.graph.specs.declared.Command.TheVariants.{Start, Stop}
use Rattle.graph.proofs.TestLaws.{true-false, not_so, both_true, both_left, both_right, not_of_false, not_of_true}
use Rattle.program.specs.Trees.{Kind, jobs, asyncs, finishes, forks, futures, forces, Body}
use Rattle.program.specs.declared.Edition.{Edition}
use Rattle.program.specs.declared.Edition.TheVariants.{First, Second}
use Rattle.program.specs.Encodings.{Name, self, own_scope, made_1, made_2, made_3, forced, Spot, Command, perform, new_td, new_edge, transfer}
use Rattle.program.specs.Encodings.{release, yield, Row, fork_row, row_of}
use Rattle.program.specs.Answers.{Stands}
use Rattle.program.specs.Reader.{program, reading}
use Rattle.program.specs.Located.{Code, end_byte_at, job_at, async_at, finish_at, fork_at, future_at, force_at, located, code_at, head, item_at}
use Rattle.program.specs.Located as code
use Rattle.program.proofs.LocatedLaws.{item_stands}
use Rattle.machine.specs.Stepping.{step_limit, steppable, start_due, place, phase, latest, followed, or_zero, named, is_vertex, stands}
use Rattle.machine.specs.Stepping.{all_stand, Task, item, spots, task, nth, own_of, moved_on, Due, refusal_due, command_due, due_if, filled_in}
use Rattle.machine.specs.Stepping.{next_of, next_at, due, do_due, step}
use Rattle.machine.proofs.GhostMachine.Ghost.{Setting, kind_of, fork_goes, goes, vertex_at, opens_behind, resolved}
use Rattle.machine.proofs.GhostMachine.Invariant.{is_item}
use Rattle.machine.proofs.TablesFollow.Follows.{setting_of, row, words_of, first_opened}
use Rattle.machine.proofs.TablesFollow.AnswerLaws.{if_pass, if_stop}

-- sound tables with steps to go
pub steppable_of : (s : Lent) → sound s ≡ true → s.steps < step_limit → steppable s ≡ true
unfolding steppable
steppable_of s known lt = both_true known (lt-ltb s.steps step_limit lt)

-- a step does what is due
pub step_is : (ed : Edition) (bytes : List ℕ) (s : Lent) (v : ℕ) {d : Due} → due ed bytes s v ≡ d → step ed bytes s v ≡ do_due s v d
unfolding step
step_is ed bytes s v e = ap (do_due s v) e

-- where the tally is as it must be, a released vertex is started, whatever the other rows hold
pub start_due_lem :
    (s : Lent) (v : ℕ) → tally_fits s.vertices s.edges s.made s.held ≡ true → s.steps < step_limit → v < s.made
    → status s.vertices v ≡ RELEASED → start_due s v ≡ true
unfolding start_due
start_due_lem s v fits early made q =
    both_true (both_true fits (lt-ltb s.steps step_limit early))
    (both_true (lt-ltb v s.made made) (eq-eqb (status s.vertices v) RELEASED q))

pub due_start : (ed : Edition) (bytes : List ℕ) (s : Lent) (v : ℕ) → start_due s v ≡ true → due ed bytes s v ≡ command_due (Start v) (own_of s v)
unfolding due
due_start ed bytes s v h = rw h refl

-- where v is no released vertex, everything is looked at
pub due_other :
    (ed : Edition) (bytes : List ℕ) (s : Lent) (v : ℕ) → (v < s.made → status s.vertices v ≡ RELEASED → ⊥)
    → due ed bytes s v
    ≡ due_if (steppable s) unsound_tables
    (due_if (is_made s v) no_such_vertex
    (due_if (not (has_status s v NEW)) vertex_is_new
    (due_if (not (has_status s v FINISHED)) vertex_is_finished (next_at s v (task ed (length bytes - 1) (item_at ed bytes (place s v)))))))
unfolding due start_due
due_other ed bytes s v other =
    rw
    (not_so (start_due s v)
    (λ h.
    let own = both_right _ _ h in
    absurd (other (ltb-true v s.made (both_left _ _ own)) (eqb-true (status s.vertices v) RELEASED (both_right _ _ own)))))
    refl

-- by the status, on tables that take a step
module _ (ed : Edition) (bytes : List ℕ) (s : Lent) (v : ℕ) (ok : steppable s ≡ true) where
  pub due_absent : s.made ≤ v → due ed bytes s v ≡ refusal_due no_such_vertex
  due_absent le = due_other ed bytes s v (omega arith) ∙ if_pass _ _ ok ∙ if_stop _ _ (le-ltb v s.made le)

  module _ (made : v < s.made) where
    pub due_new : status s.vertices v ≡ NEW → due ed bytes s v ≡ refusal_due vertex_is_new
    due_new q =
        due_other ed bytes s v (omega arith)
        ∙ if_pass _ _ ok
        ∙ if_pass _ _ (lt-ltb v s.made made)
        ∙ if_stop _ _ (not_of_true (eq-eqb (status s.vertices v) NEW q))

    pub due_over : status s.vertices v ≡ FINISHED → due ed bytes s v ≡ refusal_due vertex_is_finished
    due_over q =
        due_other ed bytes s v (omega arith)
        ∙ if_pass _ _ ok
        ∙ if_pass _ _ (lt-ltb v s.made made)
        ∙ if_pass _ _ (not_of_false (ne_eqb (status s.vertices v) NEW (omega arith)))
        ∙ if_stop _ _ (not_of_true (eq-eqb (status s.vertices v) FINISHED q))

    -- an executing one looks for its item
    pub due_executing :
        status s.vertices v ≡ EXECUTING → due ed bytes s v ≡ next_at s v (task ed (length bytes - 1) (item_at ed bytes (place s v)))
    due_executing q =
        due_other ed bytes s v (omega arith)
        ∙ if_pass _ _ ok
        ∙ if_pass _ _ (lt-ltb v s.made made)
        ∙ if_pass _ _ (not_of_false (ne_eqb (status s.vertices v) NEW (omega arith)))
        ∙ if_pass _ _ (not_of_false (ne_eqb (status s.vertices v) FINISHED (omega arith)))

-- words of a row
module _ (s : Lent) (v : ℕ) {st pl sc ph a b c l : ℕ} (h : words_of s v ≡ row st pl sc ph a b c l) where
  row_status : status s.vertices v ≡ st
  unfolding words_of
  row_status = cc

  pub row_place : place s v ≡ pl
  unfolding words_of
  row_place = cc

  row_phase : phase s v ≡ ph
  unfolding words_of
  row_phase = cc

  pub row_latest : latest s v ≡ l
  unfolding words_of
  row_latest = cc

-- every name but a force's future, and a command with such names only
unfoldable pub plain : Name → Bool
plain self = true
plain own_scope = true
plain made_1 = true
plain made_2 = true
plain made_3 = true
plain forced = false

unfoldable pub plain_names : Command → Bool
plain_names perform = true
plain_names (new_td p a) = plain a
plain_names (new_edge a b) = both (plain a) (plain b)
plain_names (transfer a) = plain a
plain_names (release a) = plain a
plain_names yield = true

-- such a name stands for what the row has; a force's future stands for the vertex f that the words followed come to
pub named_is :
    (s : Lent) (v n f : ℕ) {st pl σ ph l : ℕ} (ms : List ℕ) → words_of s v ≡ row st pl σ ph (get_or ms 0 0) (get_or ms 1 0) (get_or ms 2 0) l
    → (a : Name) → (plain a ≡ true) ⊎ (followed s v n ≡ some f) → named s v n a ≡ resolved v σ f ms a
unfolding named resolved words_of plain or_zero
named_is s v n f ms h self u = refl
named_is s v n f ms h own_scope u = cc
named_is s v n f ms h made_1 u = cc
named_is s v n f ms h made_2 u = cc
named_is s v n f ms h made_3 u = cc
named_is s v n f ms h forced (inl u) = true-false u refl
named_is s v n f ms h forced (inr u) = ap or_zero u

-- so it stands for a vertex
name_stands : (s : Lent) (v n f : ℕ) (a : Name) → (plain a ≡ true) ⊎ (followed s v n ≡ some f) → stands s v n a ≡ true
unfolding stands plain is_vertex
name_stands s v n f self u = refl
name_stands s v n f own_scope u = refl
name_stands s v n f made_1 u = refl
name_stands s v n f made_2 u = refl
name_stands s v n f made_3 u = refl
name_stands s v n f forced (inl u) = true-false u refl
name_stands s v n f forced (inr u) = ap is_vertex u

pub names_stand : (s : Lent) (v n f : ℕ) (c : Command) → (plain_names c ≡ true) ⊎ (followed s v n ≡ some f) → all_stand s v n c ≡ true
unfolding all_stand plain_names
names_stand s v n f perform u = refl
names_stand s v n f (new_td p a) u = name_stands s v n f a u
names_stand s v n f (new_edge a b) (inl u) =
    both_true (name_stands s v n f a (inl (both_left _ _ u))) (name_stands s v n f b (inl (both_right _ _ u)))
names_stand s v n f (new_edge a b) (inr u) = both_true (name_stands s v n f a (inr u)) (name_stands s v n f b (inr u))
names_stand s v n f (transfer a) u = name_stands s v n f a u
names_stand s v n f (release a) u = name_stands s v n f a u
names_stand s v n f yield u = refl

-- The item that code begins with, as the step finds it.
pub record ItemOf (Γ : Setting) (c : Code) : Type 0 where
  pub kind : Kind
  pub number : ℕ
  pub spot : Spot → ℕ
  pub is_kind : kind_of c ≡ some kind
  pub stands : task Γ.edition Γ.last_byte (head c) ≡ item (row_of Γ.edition kind) number spot
  pub goes_on : spot (row_of Γ.edition kind).next ≡ code.start_of (goes Γ c)
  -- the latest open future behind it
  pub opens_as :
      (fs : List (ℕ × Code)) (ms : List ℕ)
      → cond (row_of Γ.edition kind).opens (get_or ms 0 0) (first_opened fs) ≡ first_opened (opens_behind fs ms c)

-- the table's row for it
abbrev pub row_for : {Γ : Setting} {c : Code} → ItemOf Γ c → Row
row_for {Γ} i = row_of Γ.edition i.kind

-- a job
unfoldable pub job_item : (Γ : Setting) (o n : ℕ) (r : Code) → ItemOf Γ (job_at o n r)
unfolding kind_of head task spots goes row_of opens_behind
job_item Γ o n r =
    record {
      kind = jobs;
      number = n;
      spot = spots (code.start_of r) (code.start_of r) (code.start_of r) Γ.last_byte;
      is_kind = refl;
      stands = refl;
      goes_on = refl;
      opens_as = λ fs ms. refl;
    }

-- a fork's vertex goes where its edition's row says, and opens no future
pub fork_goes_lem : (ed : Edition) (L a b : ℕ) (r : Code) → spots a b (code.start_of r) L (fork_row ed).next ≡ code.start_of (fork_goes ed L r)
unfolding fork_row spots fork_goes code.start_of
fork_goes_lem First L a b r = refl
fork_goes_lem Second L a b r = refl

pub fork_opens : (ed : Edition) (x y : ℕ) → cond (fork_row ed).opens x y ≡ y
unfolding fork_row
fork_opens First x y = refl
fork_opens Second x y = refl

-- any item
unfoldable pub item_of : (Γ : Setting) (c : Code) → is_item c ≡ true → ItemOf Γ c
unfolding is_item kind_of head task spots goes row_of opens_behind vertex_at code.start_of
item_of Γ (end_byte_at o) h = true-false h refl
item_of Γ (job_at o n r) h = job_item Γ o n r
item_of Γ (async_at o b r) h =
    record {
      kind = asyncs;
      number = 0;
      spot = spots (code.start_of b) (code.start_of b) (code.start_of r) Γ.last_byte;
      is_kind = refl;
      stands = refl;
      goes_on = refl;
      opens_as = λ fs ms. refl;
    }
item_of Γ (finish_at o b r) h =
    record {
      kind = finishes;
      number = 0;
      spot = spots (code.start_of b) (code.start_of b) (code.start_of r) Γ.last_byte;
      is_kind = refl;
      stands = refl;
      goes_on = refl;
      opens_as = λ fs ms. refl;
    }
item_of Γ (fork_at o b c r) h =
    record {
      kind = forks;
      number = 0;
      spot = spots (code.start_of b) (code.start_of c) (code.start_of r) Γ.last_byte;
      is_kind = refl;
      stands = refl;
      goes_on = fork_goes_lem Γ.edition Γ.last_byte (code.start_of b) (code.start_of c) r;
      opens_as = λ fs ms. fork_opens Γ.edition (get_or ms 0 0) (first_opened fs);
    }
item_of Γ (future_at o b r) h =
    record {
      kind = futures;
      number = 0;
      spot = spots (code.start_of b) (code.start_of b) (code.start_of r) Γ.last_byte;
      is_kind = refl;
      stands = refl;
      goes_on = refl;
      opens_as = λ fs ms. refl;
    }
item_of Γ (force_at o n b r) h =
    record {
      kind = forces;
      number = n;
      spot = spots (code.start_of r) (code.start_of r) (code.start_of r) Γ.last_byte;
      is_kind = refl;
      stands = refl;
      goes_on = refl;
      opens_as = λ fs ms. refl;
    }

-- what is due at the step of a vertex v that executes, with the place of c and the phase φ in its row
module _
    (ed : Edition) (bytes : List ℕ) (t : Body) (s : Lent) (v : ℕ) (reads : reading ed bytes ≡ program t) (ok : steppable s ≡ true)
    (made : v < s.made)
  where
    module _
        (c : Code) {σ φ x y z l : ℕ} (h : words_of s v ≡ row EXECUTING (code.start_of c) σ φ x y z l)
        (at : code_at (located t) (code.start_of c) ≡ some c)
      where
        due-task : due ed bytes s v ≡ next_at s v (task ed (length bytes - 1) (head c))
        due-task =
            due_executing ed bytes s v ok made (row_status s v h)
            ∙ ap (λ (q : ℕ). next_at s v (task ed (length bytes - 1) (item_at ed bytes q))) (row_place s v h)
            ∙ ap (λ (q : Stands). next_at s v (task ed (length bytes - 1) q)) (item_stands ed bytes t (code.start_of c) reads at)

        -- an item's next command
        pub due_command :
            (i : ItemOf (setting_of ed bytes) c) (d : Command) → nth (row_for i).commands φ ≡ some d → all_stand s v i.number d ≡ true
            → due ed bytes s v ≡ filled_in s v i.number i.spot (moved_on (row_for i) i.spot d φ s.made (own_of s v)) d
        unfolding next_at next_of
        due_command i d q named =
            due-task
            ∙ ap (λ (k : Task). next_at s v k) i.stands
            ∙ ap (λ (n : ℕ). next_of s v (row_for i) i.number i.spot (nth (row_for i).commands n)) (row_phase s v h)
            ∙ ap (λ (o : Option Command). next_of s v (row_for i) i.number i.spot o) q
            ∙ if_pass _ _ named
            ∙ ap (λ (n : ℕ). filled_in s v i.number i.spot (moved_on (row_for i) i.spot d n s.made (own_of s v)) d) (row_phase s v h)

    -- an end byte
    pub due_end :
        (o : ℕ) {σ x y z l : ℕ} → words_of s v ≡ row EXECUTING (code.start_of (end_byte_at o)) σ 0 x y z l
        → code_at (located t) (code.start_of (end_byte_at o)) ≡ some (end_byte_at o) → due ed bytes s v ≡ command_due (Stop v) (own_of s v)
    unfolding next_at task head
    due_end o h at = due-task (end_byte_at o) h at ∙ if_pass _ _ (eq-eqb (phase s v) 0 (row_phase s v h))
