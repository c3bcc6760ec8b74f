-- A released vertex is started; at one that executes, what is due is done.
use mathlib.Core.Path.{refl}
use native.Mathlib.Omega.{arith}
use Rattle.index.specs.Underway.{Executes}
use Rattle.looks.proofs.OwnDue.{made_rows, rows_there, executing_one}
use Rattle.walks.proofs.IndexSteps.{due_on, steps_on, started_on}
use Rattle.walks.proofs.onindex.WalkTables.step.Goals as goal

-- it is started
pub returns-then-self-at-eq-RELEASED : goal.returns-then-self-at-eq-RELEASED
returns-then-self-at-eq-RELEASED c = (
  started_on _ _ c.requires.0 c.requires.2 c.requires.3 c.requires.4 c.if-self-at-eq-RELEASED.true _ _
      c.set_status.ensures c.one_step.ensures,
  (refl, c.set_status.auto.vertices, refl),
)

pub due-next-requires : goal.due-next-requires
due-next-requires c = (c.requires.3, (made_rows _ _ _ _ c.requires.0).0)

pub do_due-requires : goal.do_due-requires
do_due-requires c =
    let runs : Executes c.args.self.now.vertices.now c.args.course c.args.vertex =
    (c.requires.3, executing_one _ _ c.requires.4 c.if-self-at-eq-RELEASED.false) in record {
      ready = (c.requires.0, c.requires.1, c.requires.2, runs);
      due_on = due_on _ c.args.program.now.bytes.now c.requires.0 c.requires.2 runs c.due-next.ensures;
    }

pub returns : goal.returns
returns c =
    let runs : Executes c.args.self.now.vertices.now c.args.course c.args.vertex =
    (c.requires.3, executing_one _ _ c.requires.4 c.if-self-at-eq-RELEASED.false) in
    (steps_on _ _ c.requires.0 c.requires.2 runs c.due-next.ensures c.do_due.ensures.0, c.do_due.ensures.1)

pub bounds-self-at : goal.bounds-self-at
bounds-self-at c = omega (arith, rows_there c.requires.0, c.requires.3)

pub set_status-requires : goal.set_status-requires
set_status-requires c = omega (arith, rows_there c.requires.0, c.requires.3)
