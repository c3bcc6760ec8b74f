use mathlib.Core.Path.{sym}
use native.Mathlib.Omega.{arith}
use borrow.Author.Tests.{eq-eqb, ne_eqb}
use Rattle.graph.proofs.TestLaws.{every_none, every_more, every_stop}
use Rattle.walks.proofs.runs.all_finished.Goals as goal

pub loop-v-init : goal.loop-v-init
loop-v-init c = (omega arith, every_none _)

pub returns-then-vertices-v-ne-FINISHED : goal.returns-then-vertices-v-ne-FINISHED
returns-then-vertices-v-ne-FINISHED c = sym (every_stop _ _ _ c.loop-v-test.true (ne_eqb _ _ c.if-vertices-v-ne-FINISHED.true))

pub loop-v-preserved : goal.loop-v-preserved
loop-v-preserved c = (omega arith, every_more _ _ c.loop-v.invariant.1 (eq-eqb _ _ c.if-vertices-v-ne-FINISHED.false))
