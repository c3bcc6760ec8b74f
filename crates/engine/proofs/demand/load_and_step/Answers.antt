use mathlib.Core.Path.{refl}
use native.Mathlib.Omega.{arith}
use Rattle.engine.proofs.LoadedLaws.{not_loaded, is_loaded_lem}
use Rattle.engine.proofs.PromiseLaws.{onward_none, onward_more, keeps_promise, refused_promise}
use Rattle.engine.proofs.demand.load_and_step.Goals as goal

-- the loading is refused
pub returns-then-is_err : goal.returns-then-is_err
returns-then-is_err c = refused_promise _ c.load_by_value-loaded.ensures (not_loaded _ c.is_err.ensures.value c.if-is_err.true)

pub loop-vertex-init : goal.loop-vertex-init
loop-vertex-init c = (onward_none _ _ _ _, refl, refl)

-- one step more
pub loop-vertex-preserved : goal.loop-vertex-preserved
loop-vertex-preserved c = (
  onward_more c.loop-vertex.invariant.0 c.loop-vertex-test.true c.step_by_value.ensures,
  omega arith,
  omega arith,
)

-- all are stepped
pub returns : goal.returns
returns c =
    keeps_promise c.load_by_value-loaded.ensures (is_loaded_lem _ c.is_err.ensures.value c.if-is_err.false) c.loop-vertex.invariant.0
    c.loop-vertex-test.false
