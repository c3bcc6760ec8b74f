-- The last row out of the vertex tells.
use Rattle.index.proofs.OutLaws.{out_is}
use Rattle.index.proofs.rows.leads_out.Goals as goal

pub returns : goal.returns
returns c = out_is _ _ _ c.requires.0 c.requires.1
