-- The six stores put the row in front of the rows with its ends.
use Rattle.index.proofs.LinkLaws.{put_indexed, put_same_rows}
use Rattle.index.proofs.rows.append.Goals as goal

pub returns : goal.returns
returns c =
    let pre = c.requires in
    (put_indexed _ _ _ _ pre.0 pre.1 pre.2 pre.3, put_same_rows _ _ _ _ pre.0 pre.1 pre.2 pre.3)
