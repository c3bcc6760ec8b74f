-- The three tables, each from the one before it.
use native.Mathlib.Omega.{arith}
use Rattle.graph.specs.Tables.{usable_limit}
use Rattle.engine.proofs.LeapLaws.{told_within, leaps_filled}
use Rattle.engine.proofs.leaps.fill_leaps.Goals as goal

pub fill_eightfold-requires : goal.fill_eightfold-requires
fill_eightfold-requires c =
    let hops = c.fill_hops in
    (told_within c.args.vertices.now _ hops.new.leaps 0 1 (omega (arith, hops.auto.leaps)) hops.ensures, c.requires.1, omega (arith, hops.auto.leaps))

pub fill_eightfold-requires-2 : goal.fill_eightfold-requires-2
fill_eightfold-requires-2 c =
    let hops = c.fill_hops in
    let eights = c.fill_eightfold in
    let rows = c.args.vertices.now in (
      told_within rows _ eights.new.leaps usable_limit 8 (omega (arith, hops.auto.leaps, eights.auto.leaps)) (eights.ensures.1 rows 1 hops.ensures),
      c.requires.1,
      omega (arith, hops.auto.leaps, eights.auto.leaps),
    )

pub returns : goal.returns
returns c =
    let hops = c.fill_hops in
    let eights = c.fill_eightfold in
    let far = c.fill_eightfold-2 in
    leaps_filled _ _ hops.new.leaps eights.new.leaps far.new.leaps c.requires.1
    (omega (arith, hops.auto.leaps, eights.auto.leaps, far.auto.leaps)) hops.ensures eights.ensures.0 eights.ensures.1 far.ensures.0 far.ensures.1
