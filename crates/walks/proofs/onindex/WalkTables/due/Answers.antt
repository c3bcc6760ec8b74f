-- What stands at its place, by the ends, tells it.
use Rattle.engine.proofs.DueLaws.{there_next}
use Rattle.walks.proofs.onindex.WalkTables.due.Goals as goal

pub returns : goal.returns
returns c = there_next _ c.args.program.now.bytes.now c.args.self.now.vertices.now _ _ _ c.own_words.ensures c.by_item.ensures

pub by_item-requires : goal.by_item-requires
by_item-requires c = (c.item_by_ends-item.ensures.0, c.requires.1)
