-- Who may step, and what is due at the step of an executing vertex.
--
--     table_with, rows_with, rows_there, made_rows   an edge table with so many rows; the rows of the made vertices
--     may_cases, executing_one                      who may step
--     OwnCommand, own_task, own_given               a command that is due is the vertex's own, and no start
--     released_can, due_can                         who can step, whatever edge table the index stands for
--     hinges_nothing, hinges_barred, hinges_given   what its step hinges on
--     refused_cannot, foretold_not                  it is refused
--     hinged_pair                                   what a command hinges on
use Prim.Native.Nat.{ℕ, ◌*◌, ◌<◌, ◌≤◌}
use mathlib.Core.Path.{◌≡◌, refl, sym, ◌∙◌, ap, subst}
use mathlib.Core.Bool.{Bool, true, false, cond}
use mathlib.Core.List.{List, []}
use mathlib.Core.Logic.{◌⊎◌, inl, inr, ⊎_elim}
use mathlib.Core.Option.{Option, none, some}
use native.Mathlib.Omega.{arith}
use lib.Dec.{eqb}
use lib.ListN.{length, replicate, length-replicate}
use borrow.Author.Tests.{eq-eqb, eqb-true}
use Rattle.graph.specs.Tables.{Lent, RELEASED, EXECUTING, vertex_words, edge_words, usable_limit, vertex_rows, edge_rows, status, in_count}
use Rattle.graph.specs.Internal.Checks.{is_start}
use Rattle.graph.specs.declared.Command as single
use Rattle.graph.proofs.TestLaws.{both_true, both_left, both_right, either_cases}
use Rattle.graph.proofs.SoundLaws.{sound_fits}
use Rattle.graph.proofs.SoundChecks.{sound_rows}
use Rattle.index.specs.declared.Course.{Course}
use Rattle.index.specs.Underway.{state_of, Ready, caller_of, Executes, may_step}
use Rattle.program.specs.declared.Edition.{Edition}
use Rattle.program.specs.Encodings.{Spot, Command, perform, new_td, new_edge, transfer, release, yield, Row}
use Rattle.machine.specs.Stepping as machine
use Rattle.machine.specs.Stepping.{step_limit, phase, all_stand, Task, item, ends, nothing, Due, refusal_due, job_due, command_due, due_if}
use Rattle.machine.specs.Stepping.{filled_in, next_of, next_at}
use Rattle.machine.specs.Running.{can_step}
use Rattle.machine.proofs.GhostMachine.GhostLaws.{clash}
use Rattle.engine.specs.declared.Own.{Own}
use Rattle.engine.specs.declared.Due as code
use Rattle.engine.specs.declared.Due.TheVariants as of_due
use Rattle.engine.specs.Answers.{own_words, due_of}
use Rattle.engine.specs.Internal.Underway.{DueThere, may_start, takes}
use Rattle.engine.proofs.CandidateLaws.{start_can, executing_can}
use Rattle.std.specs.Prelude as of_code
use Rattle.refusal.specs.declared.Reason.{Reason}
use Rattle.index.specs.declared.Pair.{Pair}
use Rattle.looks.specs.declared.Hinge.{Hinge}
use Rattle.looks.specs.declared.Kind.TheVariants as of_kind
use Rattle.index.specs.Asking.{Asks, Foretells}
use Rattle.looks.specs.Looking.{CanOn, CannotOn, Hinges, HingesOn, HingedBy}

-- THE ROWS
-- an edge table with so many usable rows
abbrev pub table_with : ℕ → List ℕ
table_with limit = replicate (edge_words * limit) 0

pub rows_with : (limit : ℕ) → limit ≤ usable_limit → edge_rows (table_with limit) ≡ limit
rows_with limit few =
    let long : length (table_with limit) ≡ edge_words * limit = length-replicate (edge_words * limit) 0 in
    omega arith

-- the rows of the vertices that are made are there, and usable
pub made_rows :
    (v x : List ℕ) (k : Course) (limit : ℕ) → Ready v x k limit
    → (vertex_words * k.tally.made ≤ length v) × (k.tally.made ≤ usable_limit)
made_rows v x k limit ready =
    let rows = sound_rows (state_of v x k (table_with limit)) (ready.sound (table_with limit) (rows_with limit ready.few)) in
    (rows.0, rows.1.1.0)

pub rows_there : {v x : List ℕ} {k : Course} {limit : ℕ} → Ready v x k limit → k.tally.made ≤ vertex_rows v
rows_there {v} {x} {k} {limit} ready =
    (sound_fits (state_of v x k (table_with limit)) (ready.sound (table_with limit) (rows_with limit ready.few))).vertices_fit

-- WHO MAY STEP
-- a vertex that may step executes, or it is released and its word says that no edge leads into it
pub may_cases : (v : List ℕ) (u : ℕ) → may_step v u ≡ true → (status v u ≡ EXECUTING) ⊎ ((status v u ≡ RELEASED) × (in_count v u ≡ 0))
unfolding may_step
may_cases v u may =
    ⊎_elim (λ h. inl (eqb-true (status v u) EXECUTING h))
    (λ h. inr (eqb-true (status v u) RELEASED (both_left _ _ h), eqb-true (in_count v u) 0 (both_right _ _ h)))
    (either_cases _ _ may)

-- one that is not released executes
pub executing_one : (v : List ℕ) (t : ℕ) → may_step v t ≡ true → (status v t ≡ RELEASED → ⊥) → status v t ≡ EXECUTING
executing_one v t may not_released = ⊎_elim (λ h. h) (λ h. absurd (not_released h.0)) (may_cases v t may)

-- A COMMAND THAT IS DUE
-- what a command that is due at the step of an executing vertex is
abbrev pub OwnCommand : ℕ → Due → Type 0
OwnCommand t (refusal_due n) = Unit {0}
OwnCommand t (job_due n p w) = Unit {0}
OwnCommand t (command_due c w) = (caller_of c ≡ t) × (is_start c ≡ false)

own_if : (t : ℕ) (b : Bool) (n : ℕ) (d : Due) → OwnCommand t d → OwnCommand t (due_if b n d)
unfolding due_if
own_if t true n d h = h
own_if t false n d h = tt

own_filled : (s : Lent) (t n : ℕ) (spot : Spot → ℕ) (w : machine.Own) (c : Command) → OwnCommand t (filled_in s t n spot w c)
unfolding filled_in caller_of is_start
own_filled s t n spot w perform = tt
own_filled s t n spot w (new_td p a) = (refl, refl)
own_filled s t n spot w (new_edge a b) = (refl, refl)
own_filled s t n spot w (transfer a) = (refl, refl)
own_filled s t n spot w (release a) = (refl, refl)
own_filled s t n spot w yield = (refl, refl)

own_next : (s : Lent) (t : ℕ) (row : Row) (n : ℕ) (spot : Spot → ℕ) (x : Option Command) → OwnCommand t (next_of s t row n spot x)
unfolding next_of
own_next s t row n spot none = tt
own_next s t row n spot (some c) = own_if t (all_stand s t n c) _ _ (own_filled s t n spot _ c)

pub own_task : (s : Lent) (t : ℕ) (x : Task) → OwnCommand t (next_at s t x)
unfolding next_at caller_of is_start
own_task s t (item row n spot) = own_next s t row n spot _
own_task s t ends = own_if t (eqb (phase s t) 0) _ _ (refl, refl)
own_task s t nothing = tt

-- so it is the vertex's own, and no start
pub own_given :
    (ed : Edition) (bytes v : List ℕ) (k : Course) (t : ℕ) {d : code.Due} {c : single.Command} {w : Own}
    → DueThere ed bytes v k.tally.made t (due_of d) → d ≡ of_due.Command c w → Executes v k t
    → Executes v k (caller_of c) × (is_start c ≡ false)
own_given ed bytes v k t {d} {c} {w} there is runs =
    let s : Lent = record { vertices = v; edges = []; made = k.tally.made; held = 0; steps = 0 } in
    let own : OwnCommand t (command_due c (own_words w)) = subst (OwnCommand t) (sym (there s refl refl) ∙ ap due_of is) (own_task s t _) in
    (subst (λ (u : ℕ). Executes v k u) (sym own.0) runs, own.1)

-- WHO CAN STEP
module _ (ed : Edition) (bytes v x : List ℕ) (k : Course) (limit t : ℕ) (ready : Ready v x k limit) (early : k.tally.steps < step_limit)
    (made : t < k.tally.made) where
  -- one that may step and is released
  pub released_can : may_step v t ≡ true → status v t ≡ RELEASED → CanOn ed bytes v x k limit t
  unfolding may_start
  released_can may released e rows =
      start_can ed bytes (state_of v x k e) t (ready.sound e rows) early made refl
      (both_true (eq-eqb (status v t) RELEASED released)
      (eq-eqb (in_count v t) 0 (⊎_elim (λ h. absurd (omega arith)) (λ h. h.1) (may_cases v t may))))

  -- one that executes, exactly where what is due would be accepted
  pub due_can :
      {d : Due} {b : Bool} → status v t ≡ EXECUTING → DueThere ed bytes v k.tally.made t d
      → ((e : List ℕ) → edge_rows e ≡ limit → b ≡ takes (state_of v x k e) d) → (e : List ℕ) → edge_rows e ≡ limit
      → can_step ed bytes (state_of v x k e) t ≡ b
  due_can runs there told e rows = executing_can ed bytes (state_of v x k e) t (ready.sound e rows) early made runs there (told e rows)

-- WHAT ITS STEP HINGES ON
-- nothing
pub hinges_nothing :
    (refusal : Type 0) (x : List ℕ) (k : Course) (limit : ℕ) {h : Hinge} → h ≡ record { start = 0; goal = 0; kind = of_kind.Nothing }
    → Hinges refusal x k limit h
hinges_nothing refusal x k limit is =
    rw is
    (record {
      start_usable = omega arith;
      goal_usable = omega arith;
      barred = λ e. clash cc;
      joined = λ some_kind. absurd (some_kind refl);
    })

-- it is refused in any case
pub hinges_barred :
    (refusal : Type 0) (x : List ℕ) (k : Course) (limit : ℕ) {h : Hinge} → h ≡ record { start = 0; goal = 0; kind = of_kind.Barred } → refusal
    → Hinges refusal x k limit h
hinges_barred refusal x k limit is refused =
    rw is
    (record {
      start_usable = omega arith;
      goal_usable = omega arith;
      barred = λ e. refused;
      joined = λ some_kind not_held joined. refused;
    })

-- one refusal makes another
hinges_so :
    {refusal refusal' : Type 0} {x : List ℕ} {k : Course} {limit : ℕ} {h : Hinge} → (refusal → refusal') → Hinges refusal x k limit h
    → Hinges refusal' x k limit h
hinges_so so by =
    record {
      start_usable = by.start_usable;
      goal_usable = by.goal_usable;
      barred = λ e. so (by.barred e);
      joined = λ some_kind not_held joined. so (by.joined some_kind not_held joined);
    }

-- by what is due
module _ (ed : Edition) (bytes v x : List ℕ) (k : Course) (limit t : ℕ) (ready : Ready v x k limit) (early : k.tally.steps < step_limit)
    (made : t < k.tally.made) (runs : status v t ≡ EXECUTING) (d : code.Due) (there : DueThere ed bytes v k.tally.made t (due_of d)) where
  -- a refusal
  pub refused_cannot : (n : Reason) → d ≡ of_due.Refused n → CannotOn ed bytes v x k limit t
  unfolding takes
  refused_cannot n is = due_can ed bytes v x k limit t ready early made runs there (λ e rows. rw is refl)

  command_cannot : (c : single.Command) (w : Own) → d ≡ of_due.Command c w → Foretells v x k limit c false → CannotOn ed bytes v x k limit t
  unfolding takes
  command_cannot c w is told = due_can ed bytes v x k limit t ready early made runs there (λ e rows. rw is (told e rows))

  -- a command
  pub hinges_given : (h : Hinge) (c : single.Command) (w : Own) → d ≡ of_due.Command c w → HingedBy v x k limit c h → HingesOn ed bytes v x k limit t h
  hinges_given h c w is by = hinges_so (command_cannot c w is) by

-- a command would not be accepted
pub foretold_not :
    (v x : List ℕ) (k : Course) (limit : ℕ) (c : single.Command) {b : Bool} → Foretells v x k limit c b → b ≡ false → Foretells v x k limit c false
foretold_not v x k limit c told refused e rows = sym refused ∙ told e rows

kind_row : (appends : Bool) → cond appends of_kind.PathOrRow of_kind.Path ≡ of_kind.PathOrRow → appends ≡ true
kind_row true h = refl
kind_row false h = clash cc

kind_barred : (appends : Bool) → cond appends of_kind.PathOrRow of_kind.Path ≡ of_kind.Barred → ⊥
kind_barred true h = clash cc
kind_barred false h = clash cc

-- it hinges on a pair
pub hinged_pair :
    (v x : List ℕ) (k : Course) (limit : ℕ) (c : single.Command) (a : of_code.Option Pair) {p : Pair} {b : Bool} → Asks v x k limit c a
    → a ≡ of_code.Some p → p.appends ≡ b
    → HingedBy v x k limit c (record { start = p.start; goal = p.goal; kind = cond b of_kind.PathOrRow of_kind.Path })
hinged_pair v x k limit c a {p} {b} asks is told =
    let pair : Asks v x k limit c (of_code.Some p) = subst (Asks v x k limit c) is asks in
    record {
      start_usable = pair.0;
      goal_usable = pair.1;
      barred = λ e. absurd (kind_barred b e);
      joined =
          λ some_kind not_held joined e rows.
          sym (pair.2 not_held (⊎_elim (λ j. inl j) (λ r. inr (told ∙ kind_row b r.0, r.1)) joined) e rows);
    }
