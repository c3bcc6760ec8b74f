-- With no usable row the opening is refused and everything is as it was; else what is stored is what the definition leaves.
use mathlib.Core.Path.{◌∙◌, ap}
use Rattle.graph.specs.Tables.{Lent}
use Rattle.graph.specs.Answers.{opened}
use Rattle.graph.proofs.CallLaws.{stopped_opening, opening_opens, opened_is}
use Rattle.graph.proofs.commands.open_by_value.Goals as goal

pub returns-then-rows-eq0 : goal.returns-then-rows-eq0
returns-then-rows-eq0 c = stopped_opening c.into.result _ _ _ c.into.ensures c.vertex_rows-rows.ensures c.if-rows-eq0.true

pub returns : goal.returns
returns c =
    ap
    (λ (s : Lent). record { answer = opened; after = s })
    (opened_is
    _
    c.vertex_rows-rows.ensures
    c.edge_rows-edge_rows.ensures
    c.clear.ensures
    c.set_status.ensures
    c.clear-2.ensures)
    ∙ opening_opens _
    c.vertex_rows-rows.ensures
    c.if-rows-eq0.false
