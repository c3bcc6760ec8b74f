-- The program is refused or the place is not in it, or it is and the bytes before it tell.
use Rattle.std.proofs.Common.{sym, ap, ◌∙◌, arith}
use mathlib.Core.Bool.{not}
use Rattle.program.proofs.PlaceLaws.{loads_encoding, starts_refused, starts_outside, starts_inside}
use Rattle.program.proofs.starts.starts_at.Goals as goal
use Rattle.program.proofs.starts.starts_at.Goals.{then-not-check-via-then-not-check, then-not-check-via-else-not-check+then-program-at}

pub returns-then-not-check : goal.returns-then-not-check
returns-then-not-check c =
    elim c.then-not-check.branch [
      | then-not-check-via-then-not-check w ↦ starts_refused _ _ _ (sym c.check.ensures.0 ∙ w.if-not-check.true)
      | then-not-check-via-else-not-check+then-program-at w ↦
          starts_outside _ _ _ (sym c.check.ensures.0 ∙ w.if-not-check.false) w.if-program-at.true
    ]

pub in_number-requires : goal.in_number-requires
in_number-requires c = ((loads_encoding _ _ (sym c.check.ensures.0 ∙ c.if-not-check.false)).0, omega arith)

pub returns : goal.returns
returns c =
    ap not c.in_number.ensures
    ∙ starts_inside _ _ _ (sym c.check.ensures.0 ∙ c.if-not-check.false) c.if-program-at.false
