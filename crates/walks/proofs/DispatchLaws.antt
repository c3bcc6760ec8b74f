-- What a dispatch makes of a walk that hands jobs out, and how it ends.
--
--     ends_same, ends_told                             how it ends, by what is found where it stops
--     dispatch_stops                                   it ends where its walk does
--     dispatch_turned, dispatch_short                  its refusals, by 12 and by 44
--     dispatched                                       what it answers and leaves
use Prim.Native.Nat.{ℕ, zero, suc, ◌+◌, ◌-◌, ◌<◌, ◌≤◌}
use mathlib.Core.Path.{◌≡◌, refl, sym, ◌∙◌, ap}
use mathlib.Core.Bool.{Bool, true, false}
use mathlib.Core.Logic.{◌⊎◌, inl, inr, ⊎_elim}
use mathlib.Core.List.{List}
use mathlib.Core.Option.{Option, none, some, none-ne-some}
use native.Mathlib.Omega.{arith}
use lib.Dec.{eqb, ltb}
use lib.ListN.{length}
use borrow.Author.Tests.{lt-ltb, le-ltb, lt-leb, le-leb}
use Rattle.graph.specs.declared.Tally.{Tally}
use Rattle.graph.specs.Tests.{every}
use Rattle.graph.specs.Tables.{Lent, lent, FINISHED, vertex_rows, status}
use Rattle.graph.proofs.TestLaws.{true-false, decide, not_so}
use Rattle.refusal.specs.Refusals.{unsound_tables, busy_table_too_short}
use Rattle.program.specs.declared.Edition.{Edition}
use Rattle.machine.specs.Answers.{StepSaid}
use Rattle.machine.specs.Stepping.{steppable, step}
use Rattle.machine.specs.Running.{lowest, all_finished}
use Rattle.machine.specs.Dispatching.{lowest_free, Desk, desk, marks_of, list_of, handed_of, room, hand_out}
use Rattle.machine.specs.Dispatching.{Ending, refused, Outcome, ended, look, look_at, dispatch_on, dispatch}
use Rattle.machine.specs.Traces.{Dispatched}
use Rattle.machine.proofs.LookLaws.{finished_none}
use Rattle.looks.specs.Looking.{found}
use Rattle.walks.proofs.WalkLaws.{none_free}
use Rattle.walks.specs.declared.Walked.{Walked}
use Rattle.walks.specs.Internal.Endings.{dispatch_ends, dispatch_rests}
use Rattle.walks.specs.Internal.Walking.{Came, begun, further, WalkedTo}

-- HOW IT ENDS, BY WHAT IS FOUND
-- by what is known of each test
pub ends_same :
    {all any free row s a f r : Bool} → all ≡ s → any ≡ a → free ≡ f → row ≡ r → dispatch_ends s a f r ≡ dispatch_ends all any free row
ends_same p q t u = rw (p, q, t, u) refl

-- as the code tells it
pub ends_told :
    (ed : Edition) (bytes : List ℕ) (s : Lent) (marks : List ℕ) {e : Ending} {any free row left : Bool}
    → e ≡ dispatch_ends (every (λ k. eqb (status s.vertices k) FINISHED) s.made) any free row → any ≡ found (lowest ed bytes s)
    → free ≡ found (lowest_free ed bytes s marks) → row ≡ left → e ≡ dispatch_rests ed bytes s marks left
unfolding all_finished
ends_told ed bytes s marks is p q r = rw (sym p, sym q, sym r) is

-- A LOOK
module _ (ed : Edition) (bytes : List ℕ) where
  -- so somebody can where one can who is not busy, and not all are finished
  one_free : (s : Lent) (marks : List ℕ) (v : ℕ) → lowest_free ed bytes s marks ≡ some v → lowest ed bytes s ≡ none → ⊥
  one_free s marks v h none_can = none-ne-some v (sym (none_free ed bytes s marks none_can) ∙ h)

  not_all : (s : Lent) (marks : List ℕ) (v : ℕ) → lowest_free ed bytes s marks ≡ some v → all_finished s ≡ false
  not_all s marks v h = not_so (all_finished s) (λ all. one_free s marks v h (finished_none ed bytes s all))

  -- a look that takes a step
  look_steps :
      (again : Lent → Desk → ℕ → Outcome) (budget : ℕ) (s : Lent) (d : Desk) (taken v : ℕ) (all : Bool) (any : Option ℕ) → all ≡ false → (any ≡ none → ⊥)
      → look ed bytes again (suc budget) s d taken all any (some v) true ≡ again (step ed bytes s v).after (hand_out v (step ed bytes s v).answer d) (suc taken)
  unfolding look
  look_steps again budget s d taken v true any live can = true-false refl live
  look_steps again budget s d taken v false none live can = absurd (can refl)
  look_steps again budget s d taken v false (some u) live can = refl

  goes_on :
      (budget : ℕ) (s : Lent) (d : Desk) (taken v : ℕ) → lowest_free ed bytes s (marks_of d) ≡ some v → handed_of d < room (list_of d)
      → dispatch_on ed bytes (suc budget) s d taken
      ≡ dispatch_on ed bytes budget (step ed bytes s v).after (hand_out v (step ed bytes s v).answer d) (suc taken)
  unfolding dispatch_on look_at
  goes_on budget s d taken v low row =
      rw (low, lt-ltb (handed_of d) (room (list_of d)) row)
      (look_steps (dispatch_on ed bytes budget) budget s d taken v (all_finished s) (lowest ed bytes s) (not_all s (marks_of d) v low) (one_free s (marks_of d) v low))

  -- one that takes none, since no vertex that is not busy can step, the budget is used, or the list is full
  abbrev Stops : ℕ → Option ℕ → Bool → Type 0
  Stops budget free row = (free ≡ none) ⊎ ((budget ≡ 0) ⊎ (row ≡ false))

  look_stops :
      (again : Lent → Desk → ℕ → Outcome) (budget : ℕ) (s : Lent) (d : Desk) (taken : ℕ) (all : Bool) (any free : Option ℕ) (row : Bool)
      → (any ≡ none → free ≡ none) → Stops budget free row
      → look ed bytes again budget s d taken all any free row ≡ ended (dispatch_ends all (found any) (found free) row) taken s d
  unfolding look dispatch_ends found
  look_stops again budget s d taken true any free row idle stops = refl
  look_stops again budget s d taken false none none row idle stops = refl
  look_stops again budget s d taken false none (some v) row idle stops = absurd (none-ne-some v (sym (idle refl)))
  look_stops again budget s d taken false (some u) none row idle stops = refl
  look_stops again budget s d taken false (some u) (some v) false idle stops = refl
  look_stops again zero s d taken false (some u) (some v) true idle stops = refl
  look_stops again (suc budget) s d taken false (some u) (some v) true idle stops =
      ⊎_elim (λ h. absurd (none-ne-some v (sym h))) (⊎_elim (λ (h : suc budget ≡ 0). absurd (omega arith)) (λ h. true-false refl h)) stops

  stops_here :
      (budget : ℕ) (s : Lent) (d : Desk) (taken : ℕ) → Stops budget (lowest_free ed bytes s (marks_of d)) (ltb (handed_of d) (room (list_of d)))
      → dispatch_on ed bytes budget s d taken
      ≡ ended (dispatch_rests ed bytes s (marks_of d) (ltb (handed_of d) (room (list_of d)))) taken s d
  unfolding dispatch_on look_at
  stops_here zero s d taken stops = look_stops _ 0 s d taken _ _ _ _ (none_free ed bytes s (marks_of d)) stops
  stops_here (suc budget) s d taken stops = look_stops (dispatch_on ed bytes budget) (suc budget) s d taken _ _ _ _ (none_free ed bytes s (marks_of d)) stops

-- ITS WALK
-- a dispatch from its start is the dispatch that goes on from where its walk has come to
came_dispatch :
    {ed : Edition} {bytes : List ℕ} {s₀ : Lent} {d₀ : Desk} {s : Lent} {d : Desk} {last : Option StepSaid} {taken : ℕ} (budget : ℕ) → Came ed bytes true s₀ d₀ s d last taken
    → dispatch_on ed bytes (taken + budget) s₀ d₀ 0 ≡ dispatch_on ed bytes budget s d taken
came_dispatch {ed} {bytes} {s₀} {d₀ = d₀} budget begun =
    ap (λ (n : ℕ). dispatch_on ed bytes n s₀ d₀ 0) (let z : 0 + budget ≡ budget = omega arith in z)
came_dispatch {ed} {bytes} {s₀} {d₀ = d₀} budget (further {s} {d} {last} {taken} c row v low) =
    ap (λ (n : ℕ). dispatch_on ed bytes n s₀ d₀ 0) (let z : suc taken + budget ≡ taken + suc budget = omega arith in z)
    ∙ came_dispatch (suc budget) c
    ∙ goes_on ed bytes budget s d taken v low (row refl)

-- it is refused where no step is taken,
pub dispatch_turned :
    (ed : Edition) (bytes : List ℕ) (s : Lent) (marks list : List ℕ) (budget : ℕ) → steppable s ≡ false
    → dispatch ed bytes s marks list budget ≡ ended (refused unsound_tables 0) 0 s (desk marks list 0)
unfolding dispatch
dispatch_turned ed bytes s marks list budget h = rw h refl

-- and where the table of marks is too short
pub dispatch_short :
    (ed : Edition) (bytes : List ℕ) (s : Lent) (marks list : List ℕ) (budget : ℕ) {rows : ℕ} → steppable s ≡ true → rows ≡ vertex_rows s.vertices
    → length marks < rows → dispatch ed bytes s marks list budget ≡ ended (refused busy_table_too_short 0) 0 s (desk marks list 0)
unfolding dispatch
dispatch_short ed bytes s marks list budget h is short = rw (h, lt-leb (vertex_rows s.vertices) (length marks) (omega arith)) refl

dispatch_goes :
    (ed : Edition) (bytes : List ℕ) (s : Lent) (marks list : List ℕ) (budget : ℕ) → steppable s ≡ true → vertex_rows s.vertices ≤ length marks
    → dispatch ed bytes s marks list budget ≡ dispatch_on ed bytes budget s (desk marks list 0) 0
unfolding dispatch
dispatch_goes ed bytes s marks list budget h long = rw (h, le-leb (vertex_rows s.vertices) (length marks) long) refl

-- else it ends where its walk does
pub dispatch_stops :
    (ed : Edition) (bytes : List ℕ) (s : Lent) (marks list : List ℕ) (budget : ℕ) (r : Walked) (s' : Lent) (d' : Desk) {rows : ℕ} → steppable s ≡ true
    → rows ≡ vertex_rows s.vertices → rows ≤ length marks → WalkedTo ed bytes true budget s (desk marks list 0) r s' d'
    → dispatch ed bytes s marks list budget
    ≡ ended (dispatch_rests ed bytes s' (marks_of d') (ltb (handed_of d') (room (list_of d')))) r.taken s' d'
dispatch_stops ed bytes s marks list budget r s' d' takes_steps is long walked =
    dispatch_goes ed bytes s marks list budget takes_steps (omega arith)
    ∙ ap (λ (n : ℕ). dispatch_on ed bytes n s (desk marks list 0) 0) (let le = walked.within in let z : budget ≡ r.taken + (budget - r.taken) = omega arith in z)
    ∙ came_dispatch (budget - r.taken) walked.came
    ∙ stops_here ed bytes (budget - r.taken) s' d' r.taken
    (⊎_elim (λ already_over. inl (walked.over already_over))
    (λ not_over.
    inr
    (⊎_elim (λ (le : budget ≤ r.taken). inl (omega arith)) (λ h. inr (le-ltb (handed_of d') (room (list_of d')) h.1))
    (walked.halted not_over)))
    (decide r.over))

-- so this is what a dispatch answers and leaves
pub dispatched :
    (ed : Edition) (bytes : List ℕ) (s : Lent) (marks list : List ℕ) (budget : ℕ) {e e' : Ending} {n n' : ℕ} (vs es : List ℕ) {t t' : Tally} (marks' list' : List ℕ) {k k' : ℕ}
    → dispatch ed bytes s marks list budget ≡ ended e' n' (lent vs es t') (desk marks' list' k') → e ≡ e' → n ≡ n' → k ≡ k' → t ≡ t'
    → Dispatched ed bytes s marks list budget e n (lent vs es t) marks' list' k
dispatched ed bytes s marks list budget vs es marks' list' h p q r u =
    record {
      ends = p ∙ sym (ap (λ (o : Outcome). o.ending) h);
      takes = q ∙ sym (ap (λ (o : Outcome). o.taken) h);
      leaves = ap (λ (x : Tally). lent vs es x) u ∙ sym (ap (λ (o : Outcome). o.after) h);
      marks_are = sym (ap (λ (o : Outcome). marks_of o.handed_out) h);
      list_is = sym (ap (λ (o : Outcome). list_of o.handed_out) h);
      hands = r ∙ sym (ap (λ (o : Outcome). handed_of o.handed_out) h);
    }
