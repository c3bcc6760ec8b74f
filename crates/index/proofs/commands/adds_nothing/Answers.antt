-- `adds_nothing` meets its contract: the finished source first, then the held edge.
use mathlib.Core.Path.{refl, sym}
use native.Mathlib.Omega.{arith}
use borrow.Author.Tests.{eq-eqb, ne_eqb}
use Rattle.graph.specs.Commands.{adds_nothing}
use Rattle.graph.proofs.TestLaws.{either_first, either_second}
use Rattle.index.proofs.CommandLaws.{held_found}
use Rattle.index.proofs.commands.adds_nothing.Goals as goal

pub returns-then-vertices-source-eq-FINISHED : goal.returns-then-vertices-source-eq-FINISHED
unfolding adds_nothing
returns-then-vertices-source-eq-FINISHED c = λ e. either_first _ (eq-eqb _ _ c.if-vertices-source-eq-FINISHED.true)

pub returns-else-vertices-source-eq-FINISHED : goal.returns-else-vertices-source-eq-FINISHED
unfolding adds_nothing
returns-else-vertices-source-eq-FINISHED c =
    λ e.
    either_second (ne_eqb _ _ c.if-vertices-source-eq-FINISHED.false)
    (sym (held_found _ _ _ e c.requires.indexed.1 _ (omega arith) _ c.is_held.ensures refl))
