-- A force's newEdge by the leaps, and else what is due at the item.
use Rattle.engine.proofs.DueLaws.{there_next, next_read}
use Rattle.engine.proofs.LeapLaws.{leaps_within}
use Rattle.engine.proofs.leaps.leaping_due.Goals as goal

pub leapt-requires : goal.leapt-requires
leapt-requires c = leaps_within _ _ _ c.requires.2

pub returns-in-Force : goal.returns-in-Force
returns-in-Force c =
    there_next _ c.args.program.now.bytes.now c.args.vertices.now _ _ _
    c.own_words-own.ensures
    (next_read _ _ _ _ _ _ _ c.item_for_looks-item.ensures.0 c.in-Force.is
    (c.force_edge.ensures _ _ _ _ _ _ (c.leapt.ensures _ c.requires.2) _))
