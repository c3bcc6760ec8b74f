-- Which command looks for 12 itself: it serves the proof of the code, and nobody has to believe it.
use Rattle.std.specs.Prelude.{Bool, true, false}
use Rattle.graph.specs.declared.Command.{Command}
use Rattle.graph.specs.declared.Command.TheVariants.{NewTd, NewEdge, Release, Transfer, Start, Stop, Yield}

unfoldable pub is_start : Command → Bool
is_start (NewTd t place scope) = false
is_start (NewEdge t t1 t2) = false
is_start (Release t t') = false
is_start (Transfer t t') = false
is_start (Start t) = true
is_start (Stop t) = false
is_start (Yield t) = false
