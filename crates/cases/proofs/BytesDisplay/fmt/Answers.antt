-- One byte more is shown.
use Rattle.std.proofs.Common.{rules, ◌++◌, codes}
use Rattle.std.proofs.Output.{has_written_append, has_written_of_eq}
use lib.ListN.{get_or}
use Rattle.cases.proofs.ShownLaws.{byte_more, in_two_digits}
use Rattle.cases.proofs.BytesDisplay.fmt.Goals as goal

pub loop-byte-preserved : goal.loop-byte-preserved
loop-byte-preserved g c = λ plain.
    let l = c.loop-byte in
    let bytes = c.args.self.now.0.now in
    has_written_of_eq _ _ _ _ _
    (byte_more bytes l.byte-index (search rules) (search rules))
    (has_written_append _ _ _ _ (codes " " ++ in_two_digits (get_or bytes l.byte-index 0)) _ (l.invariant plain) (search rules))
