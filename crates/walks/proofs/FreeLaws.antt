-- The open vertices, which may step, as far as their own rows tell, and are neither busy nor shut: finding the first of them, where the others
-- are, and that the lowest vertex that can step and is not busy is among them.
--
--     low_first, skip_first                   the first one is `low`, or is looked for from `skip` on
--     from_first, settles, idle_place         where the candidates are, from the first one on and after a step
--     still_ready, may_here                   what a step asks for
--     Looked, look_begins                     looking at the open vertices one after the other
--     left_tables, turned_over                a step is refused
--     taken_next, none_next                   it is accepted; all vertices are looked at
use Prim.Native.Nat.{ℕ, ◌+◌, ◌<◌, ◌≤◌, max}
use mathlib.Core.Path.{◌≡◌, refl, sym, ◌∙◌, ap, subst}
use mathlib.Core.Bool.{Bool, true, false, not}
use mathlib.Core.Logic.{◌⊎◌, inl, inr, ⊎_elim}
use mathlib.Core.List.{List}
use mathlib.Core.Option.{none, some}
use native.Mathlib.Omega.{arith}
use lib.Dec.{ltb}
use lib.ListN.{length, set, length-replicate}
use borrow.Author.Tests.{ltb-true, ltb-false, not-true, not-false}
use Rattle.graph.specs.Tables.{Lent, usable_limit, edge_rows}
use Rattle.graph.proofs.TestLaws.{true-false, decide, not_so, both_true, both_left, both_right}
use Rattle.graph.proofs.LowestLaws.{order?, found_is, none_is}
use Rattle.index.specs.declared.Course.{Course}
use Rattle.index.specs.Underway.{state_of, Ready, may_step}
use Rattle.program.specs.declared.Edition.{Edition}
use Rattle.machine.specs.Answers.{accepted}
use Rattle.machine.specs.Running.{can_step}
use Rattle.machine.specs.Dispatching.{is_busy, lowest_free}
use Rattle.walks.specs.declared.Candidates.{Candidates}
use Rattle.walks.specs.declared.Moved.{Moved}
use Rattle.engine.specs.Answers.{said}
use Rattle.looks.specs.Looking.{is_free, is_open, Barred, FirstOpen, CannotOn, Shuts}
use Rattle.looks.proofs.OpenLaws.{shut_here, none_shut, shuts_one, shuts_both, still_open}
use Rattle.looks.proofs.OwnDue.{made_rows}
use Rattle.looks.proofs.LookLaws.{unopen, shuts_barred}
use Rattle.walks.specs.Internal.Walking.{StepsOn, OpensNobody, ShutAsTold, Covers, StillCovers}
use Rattle.walks.specs.Internal.Walking.{Settles, Reopens, Took}
use Rattle.engine.proofs.LowestLaws.{can_now, NoneNow}

-- CANDIDATES
-- `low` is the first one, if it is open and before `skip`;
pub low_first :
    (w : Candidates) (v marks shut : List ℕ) (made : ℕ) → Covers w v marks shut made → w.low < w.skip → w.low < made
    → is_open v marks shut w.low ≡ true → FirstOpen v marks shut made 0 w.low
low_first w v marks shut made covers below lt stands_open = (
  omega arith,
  λ l. (omega arith, stands_open),
  λ u le l.
      not_so (is_open v marks shut u)
      (λ h. ⊎_elim (λ (e : u ≡ w.low). absurd (omega arith)) (λ (g : w.skip ≤ u). absurd (omega arith)) (covers u (omega arith) h)),
)

-- else it is the first one from `skip` on
pub skip_first :
    (w : Candidates) (v marks shut : List ℕ) (made r : ℕ) → Covers w v marks shut made
    → (w.low < w.skip → w.low < made → is_open v marks shut w.low ≡ false) → FirstOpen v marks shut made w.skip r
    → FirstOpen v marks shut made 0 r
skip_first w v marks shut made r covers idle first = (
  first.0,
  λ l. (omega arith, (first.1 l).1),
  λ u le l.
      let within : r ≤ made = first.0 in
      ⊎_elim (λ p. not_so (is_open v marks shut u) (before_skip u (omega arith) (ltb-true u w.skip p)))
      (λ p. first.2 u (ltb-false u w.skip p) l)
      (decide (ltb u w.skip)),
)
  where
    before_skip : (u : ℕ) → u < made → u < w.skip → is_open v marks shut u ≡ true → ⊥
    before_skip u lt below h =
        ⊎_elim (λ (e : u ≡ w.low). true-false (subst (λ (y : ℕ). is_open v marks shut y ≡ true) e h) (idle (omega arith) (omega arith)))
        (λ (g : w.skip ≤ u). absurd (omega arith))
        (covers u lt h)

-- they are at the first one and behind it
pub from_first :
    (v marks shut : List ℕ) (made first : ℕ) (told : Bool) → ((u : ℕ) → u < first → is_open v marks shut u ≡ false)
    → Covers (record { low = first; skip = first + 1; shut = told }) v marks shut made
from_first v marks shut made first told lower u lt stands_open =
    ⊎_elim (λ l. true-false stands_open (lower u l)) (⊎_elim (λ e. inl e) (λ (g : first < u). inr (omega arith))) (order? u first)

-- u is at a place where candidates are
abbrev At : (low skip u : ℕ) → Type 0
At low skip u = (u ≡ low) ⊎ (skip ≤ u)

-- after a step they are where they were, or where it lets vertices step that could not before
pub settles :
    (low skip low' skip' made : ℕ) (v' : List ℕ) (lowest highest : ℕ) (told told' : Bool)
    → ((u : ℕ) → u < made → may_step v' u ≡ true → At low skip u → At low' skip' u)
    → ((u : ℕ) → lowest ≤ u → u ≤ highest → At low' skip' u)
    → Settles (record { low = low; skip = skip; shut = told }) made v' lowest highest (record { low = low'; skip = skip'; shut = told' })
settles low skip low' skip' made v' lowest highest told told' old new v marks shut made' covers widens u lt stands_open =
    let free : is_free v' marks u ≡ true = both_left _ _ stands_open in
    let may : may_step v' u ≡ true = both_left _ _ free in
    ⊎_elim
    (λ h.
    old u h.0 may
    (covers u h.0 (both_true (both_true h.1 (both_right (may_step v' u) _ free)) (both_right (is_free v' marks u) _ stands_open))))
    (λ h. new u h.0 h.1)
    (widens u lt may)

-- who may step is not at a vertex that may not
pub idle_place :
    (low' skip' : ℕ) (v' : List ℕ) (made low u : ℕ) → (low < made → may_step v' low ≡ false) → u < made → may_step v' u ≡ true → u ≡ low
    → At low' skip' u
idle_place low' skip' v' made low u idle lt may e =
    true-false (subst (λ (x : ℕ). may_step v' x ≡ true) e may) (idle (subst (λ (x : ℕ). x < made) e lt))

-- THE NEXT STEP
-- the same of equal tables
pub still_ready : (v v₁ x x₁ : List ℕ) (k : Course) (limit : ℕ) → Ready v x k limit → v₁ ≡ v → x₁ ≡ x → Ready v₁ x₁ k limit
still_ready v v₁ x x₁ k limit ready p q =
    subst (λ (y : List ℕ). Ready y x₁ k limit) (sym p) (subst (λ (y : List ℕ). Ready v y k limit) (sym q) ready)

pub may_here : (v v₁ marks shut : List ℕ) (u : ℕ) → v₁ ≡ v → is_open v marks shut u ≡ true → may_step v₁ u ≡ true
may_here v v₁ marks shut u p stands_open = ap (λ (y : List ℕ). may_step y u) p ∙ both_left _ _ (both_left _ _ stands_open)

-- The vertices below u were looked at, and none is open; u itself is. Who was shut on the way, besides those of shut₀, cannot step. Whether some
-- are shut is told.
pub record Looked (ed : Edition) (bytes v x marks shut₀ : List ℕ) (k : Course) (limit : ℕ) (w : Candidates) (shut : List ℕ) (u : ℕ) (told : Bool) : Type 0 where
  pub here : u < k.tally.made → is_open v marks shut u ≡ true
  pub lower : (u' : ℕ) → u' < u → is_open v marks shut u' ≡ false
  pub covers : Covers w v marks shut k.tally.made
  pub barred : (e : List ℕ) → edge_rows e ≡ limit → Barred ed bytes (state_of v x k e) shut₀ → Barred ed bytes (state_of v x k e) shut
  pub long : length shut ≡ usable_limit
  pub as_told : told ≡ false → (u' : ℕ) → is_busy shut u' ≡ false

module _ (ed : Edition) (bytes v x marks shut₀ : List ℕ) (k : Course) (limit : ℕ) (ready : Ready v x k limit) (w : Candidates) where
  -- the look begins at the first open vertex
  pub look_begins :
      (r : ℕ) → Covers w v marks shut₀ k.tally.made → ShutAsTold w shut₀ → FirstOpen v marks shut₀ k.tally.made 0 r
      → Looked ed bytes v x marks shut₀ k limit w shut₀ r w.shut
  look_begins r covers told first =
      record {
        here = λ lt. (first.1 lt).1;
        lower = λ u lt. first.2 u (omega arith) lt;
        covers = covers;
        barred = λ e is none_can. none_can;
        long = told.0;
        as_told = told.1;
      }

  module _ (shut : List ℕ) (u : ℕ) (told : Bool) (looked : Looked ed bytes v x marks shut₀ k limit w shut u told) where
    -- nobody below it can step and is not busy
    lower_now :
        u ≤ k.tally.made → (e : List ℕ) → edge_rows e ≡ limit → Barred ed bytes (state_of v x k e) shut₀ → NoneNow ed bytes (state_of v x k e) marks u
    lower_now within e is none_can u' lt =
        unopen ed bytes (state_of v x k e) marks shut u' (ready.sound e is) (omega arith) (looked.barred e is none_can) (looked.lower u' lt)

    -- there is none once all are looked at
    pub none_next :
        k.tally.made ≤ u → u ≤ k.tally.made → (e : List ℕ) → edge_rows e ≡ limit → Barred ed bytes (state_of v x k e) shut₀
        → lowest_free ed bytes (state_of v x k e) marks ≡ none
    unfolding lowest_free
    none_next le within e is none_can =
        none_is (can_now ed bytes (state_of v x k e) marks) k.tally.made (λ u' lt. lower_now within e is none_can u' (omega arith))

    module _ (made : u < k.tally.made) where
      u_short : u < length shut
      u_short = let rows = made_rows v x k limit ready in omega (arith, looked.long)

      -- one whose step is refused is shut, with others that cannot step, and the look goes on at the next open one
      look_goes_on :
          (shut' : List ℕ) (from r : ℕ) → CannotOn ed bytes v x k limit u → Shuts ed bytes v x k limit (set shut u 1) shut' → from ≡ max (u + 1) w.skip
          → FirstOpen v marks shut' k.tally.made from r → Looked ed bytes v x marks shut₀ k limit w shut' r true
      look_goes_on shut' from r cannot more behind first =
          record {
            here = λ lt. (first.1 lt).1;
            lower =
                λ u' lt.
                not_so _
                (λ stands_open.
                ⊎_elim (λ l. true-false (open_before u' stands_open) (looked.lower u' l))
                (⊎_elim
                (λ (same : u' ≡ u).
                true-false (both_right (is_free v marks u') _ stands_open)
                (ap not (more.still u' (ap (λ (y : ℕ). is_busy (set shut u 1) y) same ∙ shut_here shut u u_short))))
                (λ g. between u' lt g stands_open))
                (order? u' u));
            covers = λ u' lt stands_open. looked.covers u' lt (open_before u' stands_open);
            barred = λ e is none_can. shuts_barred ed bytes v x marks k limit all e is (looked.barred e is none_can);
            long = all.long ∙ looked.long;
            as_told = λ p. true-false refl p;
          }
        where
          all : Shuts ed bytes v x k limit shut shut'
          all = shuts_both ed bytes v x k limit (shuts_one ed bytes v x k limit shut u u_short cannot) more

          open_before : (t : ℕ) → is_open v marks shut' t ≡ true → is_open v marks shut t ≡ true
          open_before = still_open ed bytes v x k limit marks all

          between : (u' : ℕ) → u' < r → u < u' → is_open v marks shut' u' ≡ true → ⊥
          between u' lt g stands_open =
              let within : r ≤ k.tally.made = first.0 in
              ⊎_elim
              (λ (is_low : u' ≡ w.low).
              ⊎_elim (λ (e : u ≡ w.low). absurd (omega arith)) (λ (h : w.skip ≤ u). true-false stands_open (first.2 u' (omega arith) lt))
              (looked.covers u made (looked.here made)))
              (λ (h : w.skip ≤ u'). true-false stands_open (first.2 u' (omega arith) lt))
              (looked.covers u' (omega arith) (open_before u' stands_open))

      -- The step of the vertex at hand, where the tables are as they were when the look began:
      module _
          (v₁ x₁ v' x' : List ℕ) (m : Moved) (same_v : v₁ ≡ v) (same_x : x₁ ≡ x) (stepped : StepsOn ed bytes v₁ x₁ k limit u m v' x')
        where
          here_stepped : StepsOn ed bytes v x k limit u m v' x'
          here_stepped =
              subst (λ (y : List ℕ). StepsOn ed bytes y x k limit u m v' x') same_v
              (subst (λ (y : List ℕ). StepsOn ed bytes v₁ y k limit u m v' x') same_x stepped)

          -- it can step exactly where that was accepted
          can_as_said : (e : List ℕ) → edge_rows e ≡ limit → can_step ed bytes (state_of v x k e) u ≡ accepted (said m.answer)
          can_as_said e is = sym (ap accepted (here_stepped.steps e is).says)

          -- a refused step leaves the tables,
          module _ {refused : Bool} (refuses : refused ≡ not (accepted (said m.answer))) (is_refused : not refused ≡ false) where
            no : accepted (said m.answer) ≡ false
            no = not-true _ (sym refuses ∙ not-false _ is_refused)

            pub left_tables : (v' ≡ v) × (x' ≡ x)
            left_tables = here_stepped.turned no

            -- and the look goes on;
            pub turned_over :
                (shut' : List ℕ) (from r : ℕ) → from ≡ max (u + 1) w.skip → Shuts ed bytes v' x' k limit (set shut u 1) shut'
                → FirstOpen v' marks shut' k.tally.made from r
                → (v' ≡ v) × (x' ≡ x) × (r ≤ k.tally.made) × Looked ed bytes v x marks shut₀ k limit w shut' r true
            turned_over shut' from r behind more first = (
              left_tables.0,
              left_tables.1,
              first.0,
              look_goes_on shut' from r (λ e is. can_as_said e is ∙ no)
                  (subst (λ (y : List ℕ). Shuts ed bytes y x k limit (set shut u 1) shut') left_tables.0
                  (subst (λ (y : List ℕ). Shuts ed bytes v' y k limit (set shut u 1) shut') left_tables.1 more))
                  behind
                  (subst (λ (y : List ℕ). FirstOpen y marks shut' k.tally.made from r) left_tables.0 first),
            )

          -- an accepted one is the lowest vertex's
          lowest_now :
              accepted (said m.answer) ≡ true → (e : List ℕ) → edge_rows e ≡ limit → Barred ed bytes (state_of v x k e) shut₀
              → lowest_free ed bytes (state_of v x k e) marks ≡ some u
          unfolding lowest_free
          lowest_now taken e is none_can =
              found_is (can_now ed bytes (state_of v x k e) marks) k.tally.made u made
              (both_true (can_as_said e is ∙ taken) (both_right (may_step v u) _ (both_left _ _ (looked.here made))))
              (lower_now (omega arith) e is none_can)

          -- Who is shut cannot step behind it either, where the step lets nobody.
          still_barred :
              OpensNobody (said m.answer) → (e : List ℕ) → edge_rows e ≡ limit → Barred ed bytes (state_of v x k e) shut₀
              → Barred ed bytes (state_of v' x' m.course e) shut
          still_barred opens_nobody e is none_can u' busy =
              ap (λ (s : Lent). can_step ed bytes s u') (here_stepped.steps e is).leaves
              ∙ opens_nobody ed bytes (state_of v x k e) u u' (ready.sound e is) (sym (here_stepped.steps e is).says)
              (λ same.
              true-false (ap (λ (y : ℕ). is_busy shut y) (sym same) ∙ busy) (not-true _ (both_right (is_free v marks u) _ (looked.here made))))
              (looked.barred e is none_can u' busy)

          barred_behind :
              (w₂ w' : Candidates) (shut' : List ℕ) → w₂.shut ≡ told → Reopens (said m.answer) w₂ shut w' shut' → (e : List ℕ)
              → edge_rows e ≡ limit → Barred ed bytes (state_of v x k e) shut₀ → Barred ed bytes (state_of v' x' m.course e) shut'
          barred_behind w₂ w' shut' told_so (inl (same_w, same_shut, inl nobody)) e is none_can u' busy =
              true-false (ap (λ (l : List ℕ). is_busy l u') (sym same_shut) ∙ busy) (looked.as_told (sym told_so ∙ nobody) u')
          barred_behind w₂ w' shut' told_so (inl (same_w, same_shut, inr opens_nobody)) e is none_can u' busy =
              still_barred opens_nobody e is none_can u' (ap (λ (l : List ℕ). is_busy l u') (sym same_shut) ∙ busy)
          barred_behind w₂ w' shut' told_so (inr (from_0, all_open)) e is none_can u' busy =
              true-false (ap (λ (l : List ℕ). is_busy l u') (sym all_open) ∙ busy) (none_shut usable_limit u')

          told_behind :
              (w₂ w' : Candidates) (shut' : List ℕ) → w₂.shut ≡ told → Reopens (said m.answer) w₂ shut w' shut' → ShutAsTold w' shut'
          told_behind w₂ w' shut' told_so (inl (same_w, same_shut, why)) =
              rw (same_w, same_shut) (looked.long, λ p. looked.as_told (sym told_so ∙ p))
          told_behind w₂ w' shut' told_so (inr (from_0, all_open)) =
              rw all_open (length-replicate {A = ℕ} usable_limit 0, λ p u'. none_shut usable_limit u')

          covers_behind :
              (w₂ w' : Candidates) (shut' : List ℕ) → Covers w₂ v' marks shut m.course.tally.made → Reopens (said m.answer) w₂ shut w' shut'
              → Covers w' v' marks shut' m.course.tally.made
          covers_behind w₂ w' shut' covers (inl (same_w, same_shut, why)) = rw (same_w, same_shut) covers
          covers_behind w₂ w' shut' covers (inr (from_0, all_open)) = λ u' lt stands_open. inr (omega arith)

          pub taken_next :
              {refused : Bool} (w₁ w₂ w' : Candidates) (shut' : List ℕ) → refused ≡ not (accepted (said m.answer)) → not refused ≡ true
              → StillCovers w u w₁ × (w₁.shut ≡ told)
              → Settles w₁ k.tally.made v' m.lowest m.highest w₂ × (w₂.shut ≡ w₁.shut)
              → Reopens (said m.answer) w₂ shut w' shut'
              → Took ed bytes v x marks shut₀ k limit u m.answer m.course w' v' x' shut'
          taken_next w₁ w₂ w' shut' refuses not_refused follows settles reopens =
              record {
                below_made = made;
                lowest = lowest_now (not-false _ (sym refuses ∙ not-true _ not_refused));
                steps = here_stepped.steps;
                ready = here_stepped.ready;
                covers =
                    covers_behind w₂ w' shut'
                    (settles.0 v marks shut m.course.tally.made (follows.0 v marks shut k.tally.made looked.covers looked.lower)
                    here_stepped.widens)
                    reopens;
                told = told_behind w₂ w' shut' (settles.1 ∙ follows.1) reopens;
                barred = barred_behind w₂ w' shut' (settles.1 ∙ follows.1) reopens;
              }
