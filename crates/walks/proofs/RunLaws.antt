-- What a run makes of a walk in which nobody is busy, and how it ends.
--
--     finished_end                             all vertices are finished
--     ends_can, ends_not                       how it ends, by what is found
--     run_ends                                 it ends by whether some vertex can step where its walk does
use Prim.Native.Nat.{ℕ, suc, ◌+◌, ◌-◌, ◌≤◌}
use mathlib.Core.Path.{◌≡◌, refl, sym, ◌∙◌, ap}
use mathlib.Core.Bool.{Bool, true, false}
use mathlib.Core.Logic.{⊎_elim}
use mathlib.Core.List.{List}
use mathlib.Core.Option.{Option, none, some, none-ne-some}
use native.Mathlib.Omega.{arith}
use lib.Dec.{eqb}
use Rattle.graph.specs.declared.Tally.{Tally}
use Rattle.graph.specs.Tests.{every}
use Rattle.graph.specs.Tables.{Lent, lent, FINISHED, status}
use Rattle.graph.proofs.TestLaws.{true-false, decide, at_end}
use Rattle.program.specs.declared.Edition.{Edition}
use Rattle.machine.specs.Answers.{StepSaid}
use Rattle.machine.specs.Stepping.{steppable}
use Rattle.machine.specs.Running.{lowest, Ending, spent, all_finished, RunOutcome, ended, run_on, run}
use Rattle.machine.specs.Dispatching.{is_busy, lowest_free, Desk, desk, marks_of}
use Rattle.machine.specs.Traces.{Ran}
use Rattle.machine.proofs.LookLaws.{run_goes, rests, used_up, goes_on}
use Rattle.engine.proofs.LowestLaws.{nobody_busy}
use Rattle.looks.specs.Looking.{found}
use Rattle.walks.specs.declared.Walked.{Walked}
use Rattle.walks.specs.Answers.{last_of}
use Rattle.walks.specs.declared.Rested.{Rested}
use Rattle.walks.specs.Internal.Endings.{at_rest, run_end}
use Rattle.walks.specs.Internal.Walking.{Came, begun, further, RestsAt}

-- all vertices were looked at, and are finished
pub finished_end :
    (t : List ℕ) (made v : ℕ) → v ≤ made → made ≤ v → every (λ k. eqb (status t k) FINISHED) v ≡ true
    → true ≡ every (λ k. eqb (status t k) FINISHED) made
finished_end t made v p q h = sym (at_end (λ n. every (λ k. eqb (status t k) FINISHED) n ≡ true) p q h)

-- how it ends, by what is found: some vertex can step,
pub ends_can : {can : Bool} (all : Bool) → can ≡ true → spent ≡ run_end can all
unfolding run_end
ends_can all is = rw is refl

-- or none can, and all are finished, or not
pub ends_not : {can all seen finished : Bool} → can ≡ false → seen ≡ all → seen ≡ finished → at_rest finished ≡ run_end can all
unfolding run_end
ends_not is p q = rw is (ap at_rest (sym q ∙ p))

-- a walk that hands nothing out leaves marks and list
walked_desk :
    {ed : Edition} {bytes : List ℕ} {s₀ : Lent} {d₀ : Desk} {s : Lent} {d : Desk} {last : Option StepSaid} {taken : ℕ} → Came ed bytes false s₀ d₀ s d last taken → d ≡ d₀
walked_desk begun = refl
walked_desk (further c left v low) = walked_desk c

-- a run from its start is the run that goes on from where a walk in which nobody is busy has come to
came_run :
    {ed : Edition} {bytes : List ℕ} {s₀ : Lent} {d₀ : Desk} {s : Lent} {d : Desk} {last : Option StepSaid} {taken : ℕ} (left : ℕ) → ((v : ℕ) → is_busy (marks_of d₀) v ≡ false)
    → Came ed bytes false s₀ d₀ s d last taken → run_on ed bytes (taken + left) s₀ none 0 ≡ run_on ed bytes left s last taken
came_run {ed} {bytes} {s₀} left idle begun =
    ap (λ (n : ℕ). run_on ed bytes n s₀ none 0) (let z : 0 + left ≡ left = omega arith in z)
came_run {ed} {bytes} {s₀} {d₀ = d₀} left idle (further {s} {d} {last} {taken} c room v low) =
    ap (λ (n : ℕ). run_on ed bytes n s₀ none 0) (let z : suc taken + left ≡ taken + suc left = omega arith in z)
    ∙ came_run (suc left) idle c
    ∙ goes_on ed bytes left s last taken v
    (sym (nobody_busy ed bytes s (marks_of d) (λ u. ap (λ (x : Desk). is_busy (marks_of x) u) (walked_desk c) ∙ idle u)) ∙ low)

-- where the walk of a run has ended
module _ (ed : Edition) (bytes : List ℕ) (s : Lent) (budget : ℕ) (marks list : List ℕ) (q : Rested) (s' : Lent) (d' : Desk) (takes_steps : steppable s ≡ true)
    (idle : (v : ℕ) → is_busy marks v ≡ false) (rested : RestsAt ed bytes false budget s (desk marks list 0) q s' d') where
  abbrev r : Walked
  r = q.walked

  goes : run ed bytes s budget ≡ run_on ed bytes (budget - r.taken) s' (last_of r.last) r.taken
  goes =
      run_goes ed bytes s budget takes_steps
      ∙ ap (λ (n : ℕ). run_on ed bytes n s none 0) (let le = rested.walked.within in let z : budget ≡ r.taken + (budget - r.taken) = omega arith in z)
      ∙ came_run (budget - r.taken) idle rested.walked.came

  lowest_is : lowest_free ed bytes s' (marks_of d') ≡ lowest ed bytes s'
  lowest_is = nobody_busy ed bytes s' (marks_of d') (λ u. ap (λ (x : Desk). is_busy (marks_of x) u) (walked_desk rested.walked.came) ∙ idle u)

  -- the budget is used, if some vertex can step
  none_left : (v : ℕ) → lowest ed bytes s' ≡ some v → budget - r.taken ≡ 0
  none_left v low =
      ⊎_elim (λ already_over. absurd (none-ne-some v (sym (rested.walked.over already_over) ∙ lowest_is ∙ low)))
      (λ not_over. ⊎_elim (λ le. omega arith) (λ h. true-false h.0 refl) (rested.walked.halted not_over))
      (decide r.over)

  ends_as :
      (o : Option ℕ) → lowest ed bytes s' ≡ o
      → run ed bytes s budget ≡ ended (run_end (found o) (all_finished s')) (last_of r.last) r.taken s'
  unfolding run_end found
  ends_as none low = goes ∙ rests ed bytes (budget - r.taken) s' (last_of r.last) r.taken low
  ends_as (some v) low =
      goes ∙ ap (λ (n : ℕ). run_on ed bytes n s' (last_of r.last) r.taken) (none_left v low)
      ∙ used_up ed bytes s' (last_of r.last) r.taken v low

  pub run_ends :
      {e : Ending} → e ≡ run_end q.free (every (λ k. eqb (status s'.vertices k) FINISHED) s'.made)
      → run ed bytes s budget ≡ ended e (last_of r.last) r.taken s'
  unfolding all_finished
  run_ends is =
      ends_as _ refl
      ∙ ap (λ (x : Ending). ended x (last_of r.last) r.taken s')
      (ap (λ (b : Bool). run_end b (all_finished s')) (ap found (sym lowest_is) ∙ sym rested.free) ∙ sym is)

-- so this is what a run answers and leaves
pub ran :
    (ed : Edition) (bytes : List ℕ) (s : Lent) (budget : ℕ) {e e' : Ending} {l l' : Option StepSaid} {n n' : ℕ} (vs es : List ℕ) {t t' : Tally}
    → run ed bytes s budget ≡ ended e' l' n' (lent vs es t') → e ≡ e' → l ≡ l' → n ≡ n' → t ≡ t'
    → Ran ed bytes s budget e l n (lent vs es t)
ran ed bytes s budget vs es h p q r u =
    record {
      ends = p ∙ sym (ap (λ (o : RunOutcome). o.ending) h);
      last_is = q ∙ sym (ap (λ (o : RunOutcome). o.last) h);
      takes = r ∙ sym (ap (λ (o : RunOutcome). o.taken) h);
      leaves = ap (λ (x : Tally). lent vs es x) u ∙ sym (ap (λ (o : RunOutcome). o.after) h);
    }
