-- Behind the rows that were not dropped there are zeros up to the peak.
use Rattle.index.proofs.HandLaws.{handed_back}
use Rattle.index.proofs.rows.hand_back.Goals as goal

pub returns : goal.returns
returns c =
    let (rows, table) = c.gather_live-live.ensures in
    let pre = c.requires in
    handed_back _ _ _ _ _ _ _ rows table pre.2 pre.1 c.clear.ensures
