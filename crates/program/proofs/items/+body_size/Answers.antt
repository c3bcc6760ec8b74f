use Rattle.std.proofs.Common.{arith}
use mathlib.Core.Logic.{inl, inr, ⊎_elim}
use Rattle.program.proofs.SkipLaws.{skip_none, skip_number, skip_one, skip_fork, skip_end}
use Rattle.program.proofs.SkipLaws.{first_holds, second_holds, first_within, part_falls}
use Rattle.program.proofs.items.+body_size.Goals as goal

pub loop-from-init : goal.loop-from-init
loop-from-init t c = skip_none _ c.requires

pub overflow_add-from-then-first-eq-FORCE : goal.overflow_add-from-then-first-eq-FORCE
overflow_add-from-then-first-eq-FORCE t c =
    omega (
      arith,
      skip_number _ _ _ c.loop-from.invariant (⊎_elim (λ h. inl h) (λ h. inr h.1) c.if-first-eq-FORCE.either) c.number_end-from.ensures,
    )

pub loop-from-preserved-then-first-eq-FORCE : goal.loop-from-preserved-then-first-eq-FORCE
loop-from-preserved-then-first-eq-FORCE t c =
    skip_number _ _ _ c.loop-from.invariant (⊎_elim (λ h. inl h) (λ h. inr h.1) c.if-first-eq-FORCE.either) c.number_end-from.ensures

pub body_size-from-requires : goal.body_size-from-requires
body_size-from-requires t c = (
  part_falls _ _ _ t c.loop-from.invariant (omega arith) c.decreases,
  first_holds _ _ c.loop-from.invariant (omega arith) c.if-first-eq-FORCE.false.1,
)

pub overflow_add-from-else-first-eq-FORCE : goal.overflow_add-from-else-first-eq-FORCE
overflow_add-from-else-first-eq-FORCE t c =
    omega (arith, first_within _ _ _ c.loop-from.invariant (omega arith) c.if-first-eq-FORCE.false.1 c.body_size-from.ensures)

pub loop-from-preserved : goal.loop-from-preserved
loop-from-preserved t c =
    skip_one _ _ _ c.loop-from.invariant (omega arith, c.if-first-eq-FORK.false, c.if-first-eq-FORCE.false.1) c.body_size-from.ensures

pub slice_bounds-body_size-count-then-first-eq-FORK : goal.slice_bounds-body_size-count-then-first-eq-FORK
slice_bounds-body_size-count-then-first-eq-FORK t c =
    omega (arith, first_within _ _ _ c.loop-from.invariant (omega arith) c.if-first-eq-FORCE.false.1 c.body_size-from.ensures)

pub slice_bounds-body_size-start-then-first-eq-FORK : goal.slice_bounds-body_size-start-then-first-eq-FORK
slice_bounds-body_size-start-then-first-eq-FORK t c =
    omega (arith, first_within _ _ _ c.loop-from.invariant (omega arith) c.if-first-eq-FORCE.false.1 c.body_size-from.ensures)

pub body_size-from-requires-then-first-eq-FORK : goal.body_size-from-requires-then-first-eq-FORK
body_size-from-requires-then-first-eq-FORK t c = (
  part_falls _ _ _ t c.loop-from.invariant (omega arith) c.decreases,
  second_holds _ _ _ c.loop-from.invariant c.if-first-eq-FORK.true c.body_size-from.ensures,
)

pub overflow_add-from-then-first-eq-FORK : goal.overflow_add-from-then-first-eq-FORK
overflow_add-from-then-first-eq-FORK t c =
    omega (
      arith,
      skip_fork _ _ _ _ c.loop-from.invariant c.if-first-eq-FORK.true c.body_size-from.ensures c.body_size-from-then-first-eq-FORK.ensures,
    )

pub loop-from-preserved-then-first-eq-FORK : goal.loop-from-preserved-then-first-eq-FORK
loop-from-preserved-then-first-eq-FORK t c =
    skip_fork _ _ _ _ c.loop-from.invariant c.if-first-eq-FORK.true c.body_size-from.ensures c.body_size-from-then-first-eq-FORK.ensures

pub returns : goal.returns
returns t c = skip_end _ _ c.loop-from.invariant c.loop-from-test.false
