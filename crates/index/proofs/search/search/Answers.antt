-- `search` meets its contract: the index is what the path search of `graph` asks for.
use mathlib.Core.Path.{refl}
use native.Mathlib.Omega.{arith}
use Rattle.graph.proofs.RowLinks.{blank_long}
use Rattle.index.proofs.SearchLaws.{next_long, next_rows, next_linked}
use Rattle.index.proofs.search.search.Goals as goal

pub search_back-requires : goal.search_back-requires
search_back-requires c =
    record {
      rows = next_rows c.requires.indexed;
      linked = next_linked c.requires.indexed;
      from_lt_search_limit = (omega arith, omega arith);
      distances_value = (refl, blank_long refl);
    }

pub returns : goal.returns
returns c = rw (next_long c.requires.indexed) at c.search_back.ensures.0
