-- Behind the first words it is known whether they are made vertices.
use mathlib.Core.Path.{◌≡◌}
use Rattle.graph.proofs.SoundChecks.{words_made}
use Rattle.graph.proofs.sound.edges_made.Given as goal

abbrev pub invariant-loop-end : goal.invariant-loop-end
invariant-loop-end l = l.all_made ≡ words_made l.edges l.made l.end-index
