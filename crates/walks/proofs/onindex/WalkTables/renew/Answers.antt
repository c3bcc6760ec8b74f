-- The course goes on as it is, or on an index that is made anew.
use mathlib.Core.Path.{refl, ◌∙◌}
use Rattle.index.specs.Layout.{index_words}
use Rattle.walks.proofs.RenewLaws.{all_cleared, ready_to_take, taken_anew}
use Rattle.walks.proofs.onindex.WalkTables.renew.Goals as goal

pub take_in-requires : goal.take_in-requires
take_in-requires c =
    let take = ready_to_take _ _ _ _ c.args.edges.now c.requires.0 c.requires.1 _ c.hand_back.ensures in
    (c.clear.ensures ∙ all_cleared _ index_words c.requires.0.indexed.long, take.0, take.1, take.2)

pub returns : goal.returns
returns c =
    let anew = taken_anew _ _ _ _ c.args.edges.now c.requires.0 c.requires.1 _ c.hand_back.ensures _ c.take_in.ensures in
    (anew.0, anew.1, anew.2, anew.3, (refl, refl, refl))
