-- Not free, or as the table of the shut says.
use mathlib.Core.Path.{refl, sym, ◌∙◌}
use Rattle.graph.proofs.TestLaws.{both-false_left}
use Rattle.looks.proofs.OpenLaws.{open_as_told}
use Rattle.looks.proofs.open.is_open.Goals as goal

pub returns-then-is_free : goal.returns-then-is_free
returns-then-is_free c = open_as_told _ c.args.busy.now c.args.shut.now _ (sym c.is_free.ensures ∙ c.if-is_free.true) refl

pub returns-else-is_free : goal.returns-else-is_free
returns-else-is_free c = c.if-is_free.false ∙ sym (both-false_left _ (sym c.is_free.ensures ∙ c.if-is_free.false))
