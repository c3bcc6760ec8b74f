-- Nothing is handed out, or the test stands there.
use mathlib.Core.Path.{sym, ◌∙◌}
use Rattle.graph.proofs.TestLaws.{both-false_left}
use Rattle.engine.proofs.DueLaws.{both_skip}
use Rattle.walks.proofs.desk.Desk.is_full.Goals as goal

pub returns-then-self : goal.returns-then-self
returns-then-self c = both_skip _ c.if-self.true

pub returns-else-self : goal.returns-else-self
returns-else-self c = c.if-self.false ∙ sym (both-false_left _ c.if-self.false)
