-- The edge table that an index stands for, where e was lent and at most `peak` edges were held at a time since: the rows that were not dropped, in
-- order, zeros up to the peak, and behind that what was lent.
use Rattle.std.specs.Prelude.{ℕ, ◌*◌, ◌-◌, List, ◌++◌, drop, replicate}
use Rattle.graph.specs.Tables.{edge_words}
use Rattle.graph.specs.Commands.{kept, kept_rows}
use Rattle.index.specs.Layout.{nowhere}

-- how many of the first `used` rows were not dropped
abbrev pub live_rows : List ℕ → ℕ → ℕ
live_rows x used = kept_rows nowhere x used

unfoldable pub table_of : List ℕ → ℕ → ℕ → List ℕ → List ℕ
table_of x used peak e =
    kept nowhere x used ++ (replicate (edge_words * peak - edge_words * live_rows x used) 0 ++ drop (edge_words * peak) e)
