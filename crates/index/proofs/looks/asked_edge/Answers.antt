-- `asked_edge` meets its contract.
use mathlib.Core.Path.{sym, ◌∙◌}
use Rattle.index.proofs.CommandLaws.{none_due}
use Rattle.index.proofs.LookLaws.{edge_asks}
use Rattle.index.proofs.looks.asked_edge.Goals as goal

pub returns : goal.returns
returns c =
    λ x limit ready.
    edge_asks ready _ _ _ c.ends_refusal.ensures (none_due _ (sym c.is_err.ensures.value ∙ c.if-is_err.false))
    (sym c.has_status.ensures ∙ c.if-has_status.false)
