-- The first vertex that can step is the lowest.
use Rattle.std.proofs.Common.{rules}
use Rattle.std.proofs.lemmas.Iterator.{first_from_Range}
use Rattle.graph.specs.OfTables.{lent_of}
use Rattle.engine.proofs.LowestLaws.{Can, Cannot, first_is}
use Rattle.engine.proofs.look.lowest_able.Goals as goal

pub returns : goal.returns
returns c =
    first_is _ _ _ c.find.result
    (first_from_Range _ _ _ c.find.result (Can c.args.program.now.edition c.args.program.now.bytes.now (lent_of c.args.tables.now))
    (Cannot c.args.program.now.edition c.args.program.now.bytes.now (lent_of c.args.tables.now)) c.find.ensures.ran (λ x q k. search rules) (λ x q k. search rules))
