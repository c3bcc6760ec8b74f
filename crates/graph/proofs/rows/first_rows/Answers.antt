-- The chunks of the table's front are its rows.
use Rattle.graph.proofs.FirstRowLaws.{rows_are}
use Rattle.graph.proofs.rows.first_rows.Goals as goal

pub returns : goal.returns
returns g c = rows_are _ _ _ c.requires.0 c.requires.1 c.as_chunks.ensures.front c.as_chunks.ensures.front_len
