-- Demand 2 of a dispatch: it takes only steps, each of the lowest vertex that can step and is not busy, counts them, and ends as it finds: done,
-- stuck, waiting, full or spent (`dispatch_ran`); its refusals are 12 and 44, at no place (`dispatch_place`).
use Prim.Native.Nat.{ℕ, zero, suc, ◌+◌, ◌<◌, ◌≤◌}
use mathlib.Core.Path.{◌≡◌, refl, sym, ◌∙◌, ap, subst}
use mathlib.Core.Bool.{Bool, true, false, not, cond}
use mathlib.Core.Logic.{◌⊎◌, inl, inr}
use mathlib.Core.List.{List, [], ◌∷◌}
use mathlib.Core.Option.{Option, none, some}
use native.Mathlib.Omega.{arith}
use lib.Dec.{leb, ltb}
use lib.ListN.{length}
use borrow.Author.Tests.{leb-true, leb-false, ltb-true, ltb-false}
use Rattle.graph.specs.Tests.{both}
use Rattle.graph.specs.Tables.{Lent, vertex_rows}
use Rattle.graph.proofs.TestLaws.{true-false, not_so, both_left, both_right}
use Rattle.graph.proofs.LowestLaws.{Finds, below_finds}
use Rattle.program.specs.declared.Edition.{Edition}
use Rattle.refusal.specs.Refusals.{unsound_tables, busy_table_too_short}
use Rattle.machine.specs.Answers.{StepSaid}
use Rattle.machine.specs.Stepping.{steppable, step}
use Rattle.machine.specs.Running.{can_step, lowest, all_finished}
use Rattle.machine.specs.Dispatching.{is_busy, Desk, desk, marks_of, list_of, handed_of, room, hand_out, lowest_free, Ending, done, stuck, waiting}
use Rattle.machine.specs.Dispatching.{full, spent, refused, Outcome, ended, look, look_at, dispatch_on, dispatch}
use Rattle.machine.specs.Demand2.{LowestFree, FreeSteps, no_turn, turn, DispatchLooks, OnlyFreeSteps, tables_refused, marks_refused}
use Rattle.machine.specs.Demand2.{takes_free_steps}
use Rattle.machine.specs.Reached.{go_on_with, steps_on, dispatch_steps}
use Rattle.machine.proofs.StepDemand2.{can_ready, step_counts}
use Rattle.machine.proofs.RunDemand2.{lowest_finds, finished_all, finished_not}

-- a test that is not false holds
not-not : (b : Bool) → not b ≡ false → b ≡ true
not-not true h = refl
not-not false h = sym h

not_out : (b : Bool) → not b ≡ true → b ≡ false
not_out true h = sym h
not_out false h = refl

module _ (ed : Edition) (bytes : List ℕ) where
  -- what a look for a vertex that is not busy comes to
  abbrev is_free : Lent → List ℕ → ℕ → Bool
  is_free s marks v = both (can_step ed bytes s v) (not (is_busy marks v))

  free_finds : (s : Lent) (marks : List ℕ) → Finds (is_free s marks) s.made (lowest_free ed bytes s marks)
  unfolding lowest_free
  free_finds s marks = below_finds (is_free s marks) s.made

  busy_else : (s : Lent) (marks : List ℕ) (u : ℕ) → is_free s marks u ≡ false → can_step ed bytes s u ≡ true → is_busy marks u ≡ true
  unfolding both
  busy_else s marks u h can = not-not (is_busy marks u) (subst (λ (b : Bool). both b (not (is_busy marks u)) ≡ false) can h)

  is_lowest : (s : Lent) (marks : List ℕ) (v : ℕ) → Finds (is_free s marks) s.made (some v) → LowestFree ed bytes s marks v
  is_lowest s marks v finds =
      record {
        can = both_left _ _ finds.0;
        not_busy = not_out (is_busy marks v) (both_right _ _ finds.0);
        none_lower = λ u lt. busy_else s marks u (finds.1 u lt);
      }

  all_busy :
      (s : Lent) (marks : List ℕ) → Finds (is_free s marks) s.made none → (v : ℕ) → can_step ed bytes s v ≡ true → is_busy marks v ≡ true
  all_busy s marks finds v can = busy_else s marks v (finds v (can_ready ed bytes s v can).0) can

  -- what a dispatch comes to from s and d, where so much of the budget is left and so many steps were taken
  record Made (budget : ℕ) (s : Lent) (d : Desk) (taken : ℕ) (steps : List (ℕ × StepSaid)) (o : Outcome) : Type 0 where
    by_steps : FreeSteps ed bytes s d steps o.after o.handed_out
    number_is : o.taken ≡ taken + length steps
    within : o.taken ≤ budget
    looks : DispatchLooks ed bytes budget o.taken o.after o.handed_out o.ending
    counted : o.after.steps ≡ s.steps + length steps

  -- it ends here
  made_none :
      {budget : ℕ} (s : Lent) (d : Desk) (taken : ℕ) (e : Ending) → taken ≤ budget → DispatchLooks ed bytes budget taken s d e
      → Made budget s d taken [] (ended e taken s d)
  made_none s d taken e le looks =
      record { by_steps = no_turn; number_is = omega arith; within = le; looks = looks; counted = omega arith }

  -- one step more in front
  made_more :
      {budget : ℕ} {s : Lent} {d : Desk} {taken : ℕ} {steps : List (ℕ × StepSaid)} {o : Outcome} (v : ℕ)
      → LowestFree ed bytes s (marks_of d) v → handed_of d < room (list_of d)
      → Made budget (step ed bytes s v).after (hand_out v (step ed bytes s v).answer d) (suc taken) steps o
      → Made budget s d taken ((v, (step ed bytes s v).answer) ∷ steps) o
  made_more {s = s} v low row m =
      record {
        by_steps = turn v low row m.by_steps;
        number_is = omega (arith, m.number_is);
        within = m.within;
        looks = m.looks;
        counted = omega (arith, m.counted, step_counts ed bytes s v low.can);
      }

  -- what a look finds
  record Found (s : Lent) (d : Desk) (all : Bool) (any free : Option ℕ) (row : Bool) : Type 0 where
    finished : all_finished s ≡ all
    any_found : Finds (can_step ed bytes s) s.made any
    free_found : Finds (is_free s (marks_of d)) s.made free
    row_left : ltb (handed_of d) (room (list_of d)) ≡ row

  found_at :
      (s : Lent) (d : Desk)
      → Found s d (all_finished s) (lowest ed bytes s) (lowest_free ed bytes s (marks_of d)) (ltb (handed_of d) (room (list_of d)))
  found_at s d =
      record { finished = refl; any_found = lowest_finds ed bytes s; free_found = free_finds s (marks_of d); row_left = refl }

  -- what each ending but spent says, where a look comes to it
  stuck_looks :
      {s : Lent} {d : Desk} {free : Option ℕ} {row : Bool} (budget taken : ℕ) → Found s d false none free row
      → DispatchLooks ed bytes budget taken s d stuck
  stuck_looks {s} budget taken f =
      (finished_not s f.finished, λ v. not_so (can_step ed bytes s v) (λ h. true-false h (f.any_found v (can_ready ed bytes s v h).0)))

  waiting_looks :
      {s : Lent} {d : Desk} {u : ℕ} {row : Bool} (budget taken : ℕ) → Found s d false (some u) none row
      → DispatchLooks ed bytes budget taken s d waiting
  waiting_looks {s} {d} {u} budget taken f =
      (finished_not s f.finished, (u, f.any_found.0), all_busy s (marks_of d) f.free_found)

  full_looks :
      {s : Lent} {d : Desk} {u v : ℕ} (budget taken : ℕ) → Found s d false (some u) (some v) false → DispatchLooks ed bytes budget taken s d full
  full_looks {s} {d} {u} {v} budget taken f =
      (finished_not s f.finished, (v, is_lowest s (marks_of d) v f.free_found), ltb-false _ _ f.row_left)

  -- one look when the budget is used
  spent_made :
      (budget : ℕ) (again : Lent → Desk → ℕ → Outcome) (s : Lent) (d : Desk) (taken : ℕ) (all : Bool) (any free : Option ℕ) (row : Bool)
      → taken ≡ budget → Found s d all any free row → Made budget s d taken [] (look ed bytes again 0 s d taken all any free row)
  unfolding look
  spent_made budget again s d taken true any free row e f = made_none s d taken done (omega arith) (finished_all s f.finished)
  spent_made budget again s d taken false none free row e f = made_none s d taken stuck (omega arith) (stuck_looks budget taken f)
  spent_made budget again s d taken false (some u) none row e f = made_none s d taken waiting (omega arith) (waiting_looks budget taken f)
  spent_made budget again s d taken false (some u) (some v) false e f = made_none s d taken full (omega arith) (full_looks budget taken f)
  spent_made budget again s d taken false (some u) (some v) true e f =
      made_none s d taken spent (omega arith)
      (finished_not s f.finished, (v, is_lowest s (marks_of d) v f.free_found), ltb-true _ _ f.row_left, e)

  -- and when some of it is left
  look_made :
      (budget left : ℕ) (again : Lent → Desk → ℕ → Outcome) (tells : Lent → Desk → List (ℕ × StepSaid)) (s : Lent) (d : Desk) (taken : ℕ)
      → ((s' : Lent) (d' : Desk) → Made budget s' d' (suc taken) (tells s' d') (again s' d' (suc taken))) → taken ≤ budget
      → (all : Bool) (any free : Option ℕ) (row : Bool) → Found s d all any free row
      → Made budget s d taken (go_on_with ed bytes tells s d all any free row) (look ed bytes again (suc left) s d taken all any free row)
  unfolding look go_on_with
  look_made budget left again tells s d taken on le true any free row f = made_none s d taken done le (finished_all s f.finished)
  look_made budget left again tells s d taken on le false none free row f = made_none s d taken stuck le (stuck_looks budget taken f)
  look_made budget left again tells s d taken on le false (some u) none row f = made_none s d taken waiting le (waiting_looks budget taken f)
  look_made budget left again tells s d taken on le false (some u) (some v) false f = made_none s d taken full le (full_looks budget taken f)
  look_made budget left again tells s d taken on le false (some u) (some v) true f =
      made_more v (is_lowest s (marks_of d) v f.free_found) (ltb-true _ _ f.row_left) (on _ _)

  -- and so all of them
  on_made :
      (budget left : ℕ) (s : Lent) (d : Desk) (taken : ℕ) → taken + left ≡ budget
      → Made budget s d taken (steps_on ed bytes left s d) (dispatch_on ed bytes left s d taken)
  unfolding dispatch_on look_at steps_on
  on_made budget zero s d taken e = spent_made budget _ s d taken _ _ _ _ (omega arith) (found_at s d)
  on_made budget (suc left) s d taken e =
      look_made budget left (dispatch_on ed bytes left) (steps_on ed bytes left) s d taken
      (λ s' d'. on_made budget left s' d' (suc taken) (omega arith))
      (omega arith)
      _ _ _ _
      (found_at s d)

-- A dispatch is refused by 12 or 44 only, and changes nothing then; otherwise it takes only such steps, and their number is what it says and by
-- what the tally rises.
pub dispatch_ran :
    (ed : Edition) (bytes : List ℕ) (s : Lent) (marks list : List ℕ) (budget : ℕ)
    → OnlyFreeSteps ed bytes s marks list budget (dispatch_steps ed bytes s marks list budget) (dispatch ed bytes s marks list budget)
unfolding dispatch dispatch_steps
dispatch_ran ed bytes s marks list budget =
    go (steppable s) (leb (vertex_rows s.vertices) (length marks)) refl refl
  where
    made : Made ed bytes budget s (desk marks list 0) 0 (steps_on ed bytes budget s (desk marks list 0)) (dispatch_on ed bytes budget s (desk marks list 0) 0)
    made = on_made ed bytes budget budget s (desk marks list 0) 0 (omega arith)

    go :
        (a b : Bool) → steppable s ≡ a → leb (vertex_rows s.vertices) (length marks) ≡ b
        → OnlyFreeSteps ed bytes s marks list budget (cond a (cond b (steps_on ed bytes budget s (desk marks list 0)) []) [])
        (cond a
        (cond b (dispatch_on ed bytes budget s (desk marks list 0) 0) (ended (refused busy_table_too_short 0) 0 s (desk marks list 0)))
        (ended (refused unsound_tables 0) 0 s (desk marks list 0)))
    go true true h l =
        takes_free_steps h (leb-true _ _ l) made.by_steps (omega (arith, made.number_is)) made.within made.looks
        (omega (arith, made.counted, made.number_is))
    go true false h l = marks_refused h (leb-false _ _ l) refl refl
    go false b h l = tables_refused h refl refl

-- A refused dispatch is refused by 12 or by 44, and has no place.
pub dispatch_place :
    (ed : Edition) (bytes : List ℕ) (s : Lent) (marks list : List ℕ) (budget n p : ℕ) → (dispatch ed bytes s marks list budget).ending ≡ refused n p
    → ((n ≡ unsound_tables) ⊎ (n ≡ busy_table_too_short)) × (p ≡ 0)
dispatch_place ed bytes s marks list budget n p h = there (dispatch_ran ed bytes s marks list budget) h
  where
    there :
        {steps : List (ℕ × StepSaid)} {o : Outcome} → OnlyFreeSteps ed bytes s marks list budget steps o → o.ending ≡ refused n p
        → ((n ≡ unsound_tables) ⊎ (n ≡ busy_table_too_short)) × (p ≡ 0)
    there (tables_refused a b e) h =
        let q : refused n p ≡ refused unsound_tables 0 = sym h ∙ ap (λ (o : Outcome). o.ending) e in
        (inl cc, cc)
    there (marks_refused a b c e) h =
        let q : refused n p ≡ refused busy_table_too_short 0 = sym h ∙ ap (λ (o : Outcome). o.ending) e in
        (inr cc, cc)
    there {o = o} (takes_free_steps a b f t le looks c) h =
        absurd (subst (λ (x : Ending). DispatchLooks ed bytes budget o.taken o.after o.handed_out x) h looks)

-- One that is not refused ended as it found: where it waits, only busy vertices can step in what it leaves, and some can.
pub dispatch_looks :
    (ed : Edition) (bytes : List ℕ) (s : Lent) (marks list : List ℕ) (budget : ℕ)
    → let o = dispatch ed bytes s marks list budget in
    ((n p : ℕ) → o.ending ≡ refused n p → ⊥) → DispatchLooks ed bytes budget o.taken o.after o.handed_out o.ending
dispatch_looks ed bytes s marks list budget = there (dispatch_ran ed bytes s marks list budget)
  where
    there :
        {steps : List (ℕ × StepSaid)} {o : Outcome} → OnlyFreeSteps ed bytes s marks list budget steps o
        → ((n p : ℕ) → o.ending ≡ refused n p → ⊥) → DispatchLooks ed bytes budget o.taken o.after o.handed_out o.ending
    there (tables_refused a b e) h = absurd (h unsound_tables 0 (ap (λ (o : Outcome). o.ending) e))
    there (marks_refused a b c e) h = absurd (h busy_table_too_short 0 (ap (λ (o : Outcome). o.ending) e))
    there (takes_free_steps a b f t le looks c) h = looks

-- Its steps are the tally's rise, refused or not.
pub dispatch_rises :
    (ed : Edition) (bytes : List ℕ) (s : Lent) (marks list : List ℕ) (budget : ℕ)
    → (dispatch ed bytes s marks list budget).after.steps ≡ s.steps + (dispatch ed bytes s marks list budget).taken
dispatch_rises ed bytes s marks list budget = there (dispatch_ran ed bytes s marks list budget)
  where
    there :
        {steps : List (ℕ × StepSaid)} {o : Outcome} → OnlyFreeSteps ed bytes s marks list budget steps o
        → o.after.steps ≡ s.steps + o.taken
    there (tables_refused a b e) = rw e (omega arith)
    there (marks_refused a b c e) = rw e (omega arith)
    there (takes_free_steps a b f t le looks c) = c
