use Rattle.index.proofs.OutLaws.{out_first, out_next}
use Rattle.index.proofs.LowerLaws.{lowering_first, lowering_next, lowering_end, lower_told, higher_told}
use Rattle.index.proofs.rows.lower_targets.Goals as goal

pub loop-left-init : goal.loop-left-init
loop-left-init c =
    let (indexed, usable) = c.requires.indexed in
    (out_first _ _ _ indexed usable, lowering_first _ _ _ _ indexed usable _)

pub loop-left-smaller : goal.loop-left-smaller
loop-left-smaller c =
    let (indexed, usable) = c.requires.indexed in
    (out_next _ _ _ _ c.loop-left.invariant.0 c.loop-left-test.true indexed usable).1

pub loop-left-preserved : goal.loop-left-preserved
loop-left-preserved c =
    let (indexed, usable) = c.requires.indexed in (
      (out_next _ _ _ _ c.loop-left.invariant.0 c.loop-left-test.true indexed usable).0,
      lowering_next _ _ _ _ indexed usable _ _ _ _ _ c.loop-left.invariant.0 c.loop-left-test.true c.loop-left.invariant.1 _ _ _
          c.less_into.ensures
          (lower_told _ _ c.min-lowest.ensures)
          (higher_told _ _ c.max-highest.ensures),
    )

pub returns : goal.returns
returns c =
    let (indexed, usable) = c.requires.indexed in
    lowering_end _ _ _ _ indexed usable _ _ _ _ _ c.loop-left-test.false c.loop-left.invariant.1
