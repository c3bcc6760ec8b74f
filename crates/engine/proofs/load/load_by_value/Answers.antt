-- A refusal, or what is laid out, by proofs/LoadedLaws.antt.
use native.Mathlib.Omega.{arith}
use lib.ListN.{length-set}
use Rattle.engine.proofs.LoadedLaws.{load_turned, first_two, edge_there, load_accepted}
use Rattle.engine.proofs.load.load_by_value.Goals as goal

pub returns-then-is_err : goal.returns-then-is_err
returns-then-is_err c = load_turned _ _ _ _ (c.load_refusal-answer.ensures _) c.is_err.ensures.value c.if-is_err.true

pub place_first-requires : goal.place_first-requires
place_first-requires c =
    first_two _ _ _ _ _ _ (c.load_refusal-answer.ensures _) c.is_err.ensures.value c.if-is_err.false c.open_by_value.result _ _
    c.open_by_value.ensures

pub bounds-edges-0 : goal.bounds-edges-0
bounds-edges-0 c =
    omega (
      arith,
      edge_there _ _ _ _ _ _ (c.load_refusal-answer.ensures c.args.tally) c.is_err.ensures.value c.if-is_err.false c.open_by_value.result _ _
          c.open_by_value.ensures,
    )

pub bounds-edges-1 : goal.bounds-edges-1
bounds-edges-1 c =
    omega (
      arith,
      length-set c.open_by_value.new.edges 0 0,
      edge_there _ _ _ _ _ _ (c.load_refusal-answer.ensures c.args.tally) c.is_err.ensures.value
          c.if-is_err.false c.open_by_value.result _ _ c.open_by_value.ensures,
    )

pub returns : goal.returns
returns c =
    load_accepted _ _ _ _ _ _ (c.load_refusal-answer.ensures _) c.is_err.ensures.value c.if-is_err.false c.open_by_value.result _ _
    c.open_by_value.ensures c.place_first.ensures
