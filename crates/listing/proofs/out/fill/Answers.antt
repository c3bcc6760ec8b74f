-- What a read gives stands behind what was read before.
use Rattle.std.proofs.Common.{rules}
use Rattle.listing.proofs.ListingLaws.{filled_more}
use Rattle.listing.proofs.out.fill.Goals as goal

pub loop-filled-preserved : goal.loop-filled-preserved
loop-filled-preserved g c =
    let l = c.loop-filled in
    (search rules, search rules, filled_more _ _ _ l.filled _ c.in-Ok.n l.buffer c.read.new.buf (search rules) (search rules) l.invariant.2 (search rules))
