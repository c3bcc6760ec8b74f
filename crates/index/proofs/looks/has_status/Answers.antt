-- `has_status` meets its contract: the tests are the definition's, in the same order.
use mathlib.Core.Path.{refl}
use borrow.Author.Tests.{lt-ltb, le-ltb}
use Rattle.graph.specs.Tests.{both}
use Rattle.index.proofs.looks.has_status.Goals as goal

pub returns-then-vertex-course : goal.returns-then-vertex-course
unfolding both
returns-then-vertex-course c = rw (lt-ltb _ _ c.if-vertex-course.true) refl

pub returns-else-vertex-course : goal.returns-else-vertex-course
unfolding both
returns-else-vertex-course c = rw (le-ltb _ _ c.if-vertex-course.false) refl
