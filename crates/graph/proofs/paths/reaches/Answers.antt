-- `reaches` meets its contract. Where no edge leads out of the one vertex, or into the other, no path does; else the search tells.
use mathlib.Core.Path.{sym, ◌∙◌}
use Rattle.graph.proofs.PathLaws.{no_edge_out, no_edge_in}
use Rattle.graph.proofs.paths.reaches.Goals as goal

pub returns-then-not-leads : goal.returns-then-not-leads
returns-then-not-leads c = sym (no_edge_out _ _ _ _ (sym c.leads.ensures ∙ c.if-not-leads.true))

pub returns-then-not-leads-2 : goal.returns-then-not-leads-2
returns-then-not-leads-2 c = sym (no_edge_in _ _ _ _ (sym c.leads-2.ensures ∙ c.if-not-leads-2.true))
