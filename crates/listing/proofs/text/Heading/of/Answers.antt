-- Its counts are words of 16 bits.
use Rattle.std.proofs.Common.{rules}
use Rattle.program.specs.Answers.{item_counts}
use Rattle.listing.proofs.LineLengths.{counted_short}
use Rattle.listing.proofs.text.Heading.of.Goals as goal

pub returns-clause-short : goal.returns-clause-short
returns-clause-short c =
    counted_short _ _ (item_counts c.args.items) _ _ c.vertices.ensures c.steps.ensures (search rules) (search rules) (search rules)
    (search rules) (search rules) (search rules)
