use Rattle.std.proofs.Common.{ℕ, List, ◌≡◌, ◌≤◌, ◌<◌, ◌-◌, suc, refl, subst, ◌∙◌, arith, length, length-set}
use Rattle.program.specs.Limits.{program_bytes}
use Rattle.program.specs.Internal.Progress.{Outside}
use Rattle.program.proofs.EndLaws.{Filled, Turn, filling_none, filled_past, looks_within, filled_more}
use Rattle.program.proofs.ends.fill_ends.Goals as goal

-- the turn at the next place
turn :
    (program marks ends : List ℕ) (place after : ℕ) → length program ≤ program_bytes → length marks ≡ program_bytes → Outside program marks
    → (place ≤ length program) × (length ends ≡ length marks) × Filled program marks ends place after → 0 < place
    → Turn program marks ends (place - 1) after
turn program marks ends place after few long outside inv lt =
    let is : place ≡ suc (place - 1) = omega arith in
    record {
      few = few;
      long = inv.1 ∙ long;
      kept = inv.1;
      outside = outside;
      within = omega arith;
      filled = subst (λ k. Filled program marks ends k after) is inv.2;
    }

pub loop-place-init : goal.loop-place-init
loop-place-init c = (omega arith, refl, λ b fits same. filling_none b fits same c.requires.3)

pub end_from-after-requires : goal.end_from-after-requires
end_from-after-requires c =
    let next = turn _ _ _ _ _ c.requires.1 c.requires.2 c.requires.3 c.loop-place.invariant c.loop-place-test.true in
    (omega arith, looks_within next c.if-ends-place-ne0.true c.requires.0)

pub loop-place-preserved-then-ends-place-ne0 : goal.loop-place-preserved-then-ends-place-ne0
loop-place-preserved-then-ends-place-ne0 c =
    let next = turn _ _ _ _ _ c.requires.1 c.requires.2 c.requires.3 c.loop-place.invariant c.loop-place-test.true in
    (omega arith, simp length-set c.loop-place.invariant.1, filled_more _ next c.if-ends-place-ne0.true c.end_from-after.ensures)

pub loop-place-preserved : goal.loop-place-preserved
loop-place-preserved c =
    let next = turn _ _ _ _ _ c.requires.1 c.requires.2 c.requires.3 c.loop-place.invariant c.loop-place-test.true in
    (omega arith, c.loop-place.invariant.1, filled_past next c.if-ends-place-ne0.false)
