-- Nothing is handed out; or a look in which nobody is busy tells.
use mathlib.Core.Path.{refl, ◌∙◌, ap}
use Rattle.engine.proofs.LowestLaws.{nobody_busy, none_marked}
use Rattle.looks.specs.Looking.{found}
use Rattle.walks.proofs.walk.none_free.Goals as goal

pub returns-then-hands : goal.returns-then-hands
returns-then-hands c =
    (refl, refl, λ e rows barred hands. c.anyone_can-any.ensures.tells e rows barred ∙ ap found (nobody_busy _ _ _ _ (none_marked 1)))
