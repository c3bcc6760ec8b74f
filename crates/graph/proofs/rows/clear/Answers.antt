-- The part that is filled is the part that is cleared.
use Rattle.graph.proofs.ClearLaws.{filled}
use Rattle.graph.proofs.rows.clear.Goals as goal

pub returns : goal.returns
returns c = filled c.args.table.now c.fill.new.self c.args.from c.args.count c.requires (c.fill.ensures.after (λ y h. h))
