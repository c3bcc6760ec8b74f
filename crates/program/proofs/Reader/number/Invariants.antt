-- After i turns: the value of i groups, the weight of the next, and what the whole number comes to.
use Rattle.program.proofs.NumberLoop.{After}
use Rattle.program.proofs.Reader.number.Given as goal

abbrev pub invariant-loop-i : goal.invariant-loop-i
invariant-loop-i l = After l.bytes l.i l.value l.weight
