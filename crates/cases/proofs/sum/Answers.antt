-- A sum of no words is 0, and a turn adds one word.
use Rattle.std.proofs.Common.{rules}
use Rattle.cases.proofs.SumLaws.{sum_none, sum_more}
use Rattle.cases.proofs.sum.Goals as goal
use native.Mathlib.Omega.{arith}

pub loop-word-init : goal.loop-word-init
loop-word-init c = (omega arith, sum_none _)

pub loop-word-preserved : goal.loop-word-preserved
loop-word-preserved c = (search rules, sum_more _ _ c.loop-word.invariant.1)
