-- Each call of specs/Examples.antt comes to what is expected there: it is evaluated, by unfolding the definitions.
use mathlib.Core.Path.{◌≡◌, refl}
use mathlib.Core.List.{map}
use mathlib.Core.Option.{Option-elim}
use Rattle.graph.specs.Tests.{both, either, every, any, or_this, lowest_below}
use Rattle.graph.specs.Sound.{tally_fits, status_known, statuses_known, ends_made, edges_made, sound}
use Rattle.graph.specs.Paths.{holds}
use Rattle.chains.specs.Chains.{leads_in, distance, next_vertex, first_chain, of_length, shortest_chain}
use Rattle.chains.specs.Showing.{turned_away_unless, shown, show_chain}
use Rattle.chains.specs.Examples.{calls, comes_to, expected}

pub evaluated : map comes_to calls ≡ map expected calls
unfolding show_chain shown turned_away_unless shortest_chain of_length distance first_chain next_vertex leads_in holds Option-elim
    both either every any or_this lowest_below tally_fits status_known statuses_known ends_made edges_made sound
evaluated = refl
