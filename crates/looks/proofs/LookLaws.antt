-- What a look tells: whether some vertex that is not busy can step.
--
--     idle_stays, unfree       who may not step cannot, and one that is not free is none that can step and is not busy
--     shuts_barred             who is shut behind a look cannot step
--     late_look, looked        the steps are used up; or the first open vertex that can step was looked for
use Prim.Native.Nat.{ℕ, ◌<◌, ◌≤◌}
use mathlib.Core.Path.{◌≡◌, refl, sym}
use mathlib.Core.Bool.{Bool, true, false, not}
use mathlib.Core.Logic.{⊎_elim}
use mathlib.Core.List.{List}
use mathlib.Core.Option.{Option, none, some}
use native.Mathlib.Omega.{arith}
use lib.Dec.{ltb}
use borrow.Author.Tests.{eqb-false, ltb-true, ltb-false, not-false}
use Rattle.graph.specs.Tables.{Lent, EXECUTING, edge_rows, status}
use Rattle.graph.specs.Sound.{sound}
use Rattle.graph.proofs.TestLaws.{both_true, both_left, both_right, both-false_left, both-false_right, either-false_left, either-false_right}
use Rattle.graph.proofs.LowestLaws.{found_is, none_is}
use Rattle.index.specs.declared.Course.{Course}
use Rattle.index.specs.Underway.{state_of, Ready, may_step}
use Rattle.program.specs.declared.Edition.{Edition}
use Rattle.machine.specs.Stepping.{step_limit}
use Rattle.machine.specs.Running.{can_step}
use Rattle.machine.specs.Dispatching.{is_busy, lowest_free}
use Rattle.engine.specs.Internal.Underway.{may_start}
use Rattle.engine.proofs.CandidateLaws.{both_fails, barred}
use Rattle.engine.proofs.LowestLaws.{can_now, NoneNow, late_free}
use Rattle.looks.specs.Looking.{is_free, is_open, FirstOpen, CanOn, Shuts, Barred, found, Looks}

-- who may not step cannot
idle_stays :
    (ed : Edition) (bytes : List ℕ) (s : Lent) (u : ℕ) → sound s ≡ true → u < s.made → may_step s.vertices u ≡ false
    → can_step ed bytes s u ≡ false
unfolding may_step may_start
idle_stays ed bytes s u known lt h =
    barred ed bytes s u known lt (sym (either-false_right _ _ h)) refl (eqb-false (status s.vertices u) EXECUTING (either-false_left _ _ h))

-- one that is not free is none
pub unfree :
    (ed : Edition) (bytes : List ℕ) (s : Lent) (marks : List ℕ) (u : ℕ) → sound s ≡ true → u < s.made → is_free s.vertices marks u ≡ false
    → can_now ed bytes s marks u ≡ false
unfree ed bytes s marks u known lt h =
    ⊎_elim (λ idle. both-false_left _ (idle_stays ed bytes s u known lt idle)) (λ busy. both-false_right (can_step ed bytes s u) busy)
    (both_fails (may_step s.vertices u) (not (is_busy marks u)) h)

-- nor is one that is not open, where none can step who is shut
pub unopen :
    (ed : Edition) (bytes : List ℕ) (s : Lent) (marks shut : List ℕ) (u : ℕ) → sound s ≡ true → u < s.made → Barred ed bytes s shut
    → is_open s.vertices marks shut u ≡ false → can_now ed bytes s marks u ≡ false
unopen ed bytes s marks shut u known lt none_can h =
    ⊎_elim (λ not_Free. unfree ed bytes s marks u known lt not_Free) (λ is_shut. both-false_left _ (none_can u (not-false _ is_shut)))
    (both_fails (is_free s.vertices marks u) (not (is_busy shut u)) h)

-- a look finds one, or none
pub found_some : (o : Option ℕ) (u : ℕ) → o ≡ some u → found o ≡ true
unfolding found
found_some o u is = rw is refl

pub found_none : (o : Option ℕ) → o ≡ none → found o ≡ false
unfolding found
found_none o is = rw is refl

module _ (ed : Edition) (bytes v x marks : List ℕ) (k : Course) (limit : ℕ) where
  -- who is shut behind a look cannot step
  pub shuts_barred :
      {shut shut' : List ℕ} → Shuts ed bytes v x k limit shut shut' → (e : List ℕ) → edge_rows e ≡ limit
      → Barred ed bytes (state_of v x k e) shut → Barred ed bytes (state_of v x k e) shut'
  shuts_barred shuts e rows none_can u h = ⊎_elim (λ before. none_can u before) (λ cannot. cannot e rows) (shuts.besides u h)

  -- the steps are used up
  pub late_look : (shut : List ℕ) → step_limit ≤ k.tally.steps → Looks ed bytes v x marks k limit shut false shut
  late_look shut late =
      record {
        tells = λ e rows none_can. sym (found_none _ (late_free ed bytes (state_of v x k e) marks late));
        barred = λ e rows none_can. none_can;
        long = refl;
      }

  -- the first open vertex that can step was looked for
  module _ (ready : Ready v x k limit) (shut shut' : List ℕ) (r : ℕ) (shuts : Shuts ed bytes v x k limit shut shut')
      (first : FirstOpen v marks shut' k.tally.made 0 r) (can : r < k.tally.made → CanOn ed bytes v x k limit r) where
    lower :
        (e : List ℕ) → edge_rows e ≡ limit → Barred ed bytes (state_of v x k e) shut → NoneNow ed bytes (state_of v x k e) marks r
    lower e rows none_can u lt =
        let within : r ≤ k.tally.made = first.0 in
        unopen ed bytes (state_of v x k e) marks shut' u (ready.sound e rows) (omega arith) (shuts_barred shuts e rows none_can)
        (first.2 u (omega arith) lt)

    told :
        (b : Bool) → ltb r k.tally.made ≡ b → (e : List ℕ) → edge_rows e ≡ limit → Barred ed bytes (state_of v x k e) shut
        → b ≡ found (lowest_free ed bytes (state_of v x k e) marks)
    unfolding lowest_free
    told true is e rows none_can =
        let lt : r < k.tally.made = ltb-true r k.tally.made is in
        sym
        (found_some _ r
        (found_is (can_now ed bytes (state_of v x k e) marks) k.tally.made r lt
        (both_true (can lt e rows) (both_right (may_step v r) _ (both_left _ _ (first.1 lt).1)))
        (lower e rows none_can)))
    told false is e rows none_can =
        let le : k.tally.made ≤ r = ltb-false r k.tally.made is in
        sym
        (found_none _
        (none_is (can_now ed bytes (state_of v x k e) marks) k.tally.made (λ u lt. lower e rows none_can u (omega arith))))

    pub looked : Looks ed bytes v x marks k limit shut (ltb r k.tally.made) shut'
    looked = record { tells = told _ refl; barred = shuts_barred shuts; long = shuts.long }
