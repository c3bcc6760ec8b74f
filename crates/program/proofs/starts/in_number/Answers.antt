use Rattle.std.proofs.Common.{arith, sym, ◌∙◌}
use Rattle.program.proofs.NumberEnds.{told_before, told_other, told_first}
use Rattle.program.proofs.starts.in_number.Goals as goal

pub returns-then-not-opens_number : goal.returns-then-not-opens_number
returns-then-not-opens_number c =
    told_other c.loop-before.invariant.1 c.requires.0 c.loop-before-test.true (omega arith)
    (sym c.opens_number.ensures ∙ c.if-not-opens_number.true)

pub loop-before-preserved : goal.loop-before-preserved
loop-before-preserved c = (
  omega arith,
  told_before c.loop-before.invariant.1 c.loop-before-test.true (sym c.opens_number.ensures ∙ c.if-not-opens_number.false),
)

pub returns : goal.returns
returns c = told_first c.loop-before.invariant.1 c.loop-before-test.false
