-- `asked_transfer` meets its contract.
use mathlib.Core.Path.{sym, ◌∙◌}
use Rattle.index.proofs.LookLaws.{transfer_asks}
use Rattle.index.proofs.looks.asked_transfer.Goals as goal

pub returns-then-has_status : goal.returns-then-has_status
returns-then-has_status c =
    λ x limit ready.
    transfer_asks ready _ _ c.requires.0 (sym c.has_status.ensures ∙ c.if-has_status.true)
