-- The program is refused and the ends are cleared, or it is read, the places outside its numbers are marked, and the marks turned into ends.
use Rattle.std.proofs.Common.{sym, ◌∙◌}
use Rattle.program.proofs.PlaceLaws.{loads_encoding}
use Rattle.program.proofs.EndLaws.{all_zero, ends_refused, ends_read}
use Rattle.program.proofs.ends.mark_ends.Goals as goal

pub returns-then-not-check : goal.returns-then-not-check
returns-then-not-check c = (
  c.fill.ensures.len ∙ c.check.ensures.1 ∙ (all_zero _ _ c.requires).0,
  ends_refused _ _ c.fill.new.self (sym c.check.ensures.0 ∙ c.if-not-check.true) (all_zero _ _ (c.fill.ensures.after (λ y same. same))).1,
)

pub fill_ends-requires : goal.fill_ends-requires
fill_ends-requires c =
    let read = loads_encoding _ _ (sym c.check.ensures.0 ∙ c.if-not-check.false) in
    (read.0, read.1, c.check.ensures.1 ∙ (all_zero _ _ c.requires).0, c.check.ensures.2 c.if-not-check.false)

pub returns : goal.returns
returns c = (
  c.fill_ends.ensures.0 ∙ c.check.ensures.1 ∙ (all_zero _ _ c.requires).0,
  ends_read _ _ c.fill_ends.new.ends (sym c.check.ensures.0 ∙ c.if-not-check.false) c.fill_ends.ensures.1,
)
