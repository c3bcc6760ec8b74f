-- All are finished; one that is not busy can step, and the list has a row left or none; a busy one can, or nobody.
use mathlib.Core.Path.{refl, sym, ◌∙◌}
use Rattle.walks.specs.Internal.Endings.{dispatch_ends}
use Rattle.walks.proofs.DispatchLaws.{ends_same}
use Rattle.walks.proofs.dispatches.at_end.Goals as goal

pub returns-then-all_finished : goal.returns-then-all_finished
unfolding dispatch_ends
returns-then-all_finished c = ends_same (sym c.all_finished.ensures ∙ c.if-all_finished.true) refl refl refl

pub returns-then-room : goal.returns-then-room
unfolding dispatch_ends
returns-then-room c = ends_same (sym c.all_finished.ensures ∙ c.if-all_finished.false) refl c.if-free.true c.if-room.true

pub returns-else-room : goal.returns-else-room
unfolding dispatch_ends
returns-else-room c = ends_same (sym c.all_finished.ensures ∙ c.if-all_finished.false) refl c.if-free.true c.if-room.false

pub returns-then-any : goal.returns-then-any
unfolding dispatch_ends
returns-then-any c = ends_same (sym c.all_finished.ensures ∙ c.if-all_finished.false) c.if-any.true c.if-free.false refl

pub returns-else-any : goal.returns-else-any
unfolding dispatch_ends
returns-else-any c = ends_same (sym c.all_finished.ensures ∙ c.if-all_finished.false) c.if-any.false c.if-free.false refl
