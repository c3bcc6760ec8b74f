-- The program is not read, or loading it is refused, or it is loaded.
use Rattle.listing.proofs.LineLaws.{unread_line, refused_line, heading_line}
use Rattle.std.proofs.Common.{rules}
use Rattle.listing.proofs.LineLengths.{refusal_line_short}
use Rattle.listing.proofs.first_line.Goals as goal

pub returns-in_err-items-clause-line : goal.returns-in_err-items-clause-line
returns-in_err-items-clause-line c = unread_line _ _ _ c.from_residual.result _ c.from_residual.ensures.1 c.in_err-items.ensures

pub returns-in_err-items-clause-short : goal.returns-in_err-items-clause-short
returns-in_err-items-clause-short c = refusal_line_short c.from_residual.result c.in_err-items.field-0.0 c.from_residual.ensures.1 (search rules)

pub returns-in_err-loaded-clause-line : goal.returns-in_err-loaded-clause-line
returns-in_err-loaded-clause-line c =
    let load = c.load_by_value-loaded in
    let line = c.from_residual-in_err-loaded in
    refused_line _ _ _ line.result _ load.result.tally line.ensures.1 load.ensures c.in_err-loaded.was

pub returns-in_err-loaded-clause-short : goal.returns-in_err-loaded-clause-short
returns-in_err-loaded-clause-short c = refusal_line_short c.from_residual-in_err-loaded.result c.in_err-loaded.field-0.0 c.from_residual-in_err-loaded.ensures.1 (search rules)

pub returns-clause-line : goal.returns-clause-line
returns-clause-line c =
    let load = c.load_by_value-loaded in
    let line = c.of.ensures in
    heading_line _ _ _ c.of.result load.result.tally _ _ c.in_ok-items.ensures load.ensures c.in_ok-loaded.was line.vertices line.jobs line.steps

pub returns-clause-short : goal.returns-clause-short
returns-clause-short c = c.of.ensures.short
