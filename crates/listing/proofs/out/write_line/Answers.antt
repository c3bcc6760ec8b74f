-- What the text on the stack holds is the line and its end, and all of it is written.
use mathlib.Core.Path.{◌∙◌}
use Rattle.std.proofs.lemmas.Result.{on_ok_weaker}
use Rattle.listing.proofs.ListingLaws.{line_shown, line_written}
use Rattle.listing.proofs.out.write_line.Goals as goal

pub returns-in-Ok : goal.returns-in-Ok
returns-in-Ok g c =
    let line = g.D.Display.output c.args.line.now in
    let shown = line_shown _ _ line c.new-text.ensures.text c.new-text.ensures.intact c.in-Ok.ensures.writes in
    let handed = c.as_bytes.ensures.value ∙ c.as_str.ensures.value in
    on_ok_weaker c.write_all.result (λ wrote. line_written _ _ line _ _ shown handed wrote) c.write_all.ensures.bytes
