use native.Mathlib.Omega.{arith}
use Prim.Native.Nat.{◌*◌}
use mathlib.Core.Path.{◌≡◌}
use lib.ListN.{length, take}
use lib.Seq.{length-take-le}
use Rattle.std.proofs.lemmas.List.{get_or-take}
use Rattle.graph.specs.Tables.{edge_words}
use Rattle.graph.proofs.SoundChecks.{words_none, words_more, words_all}
use Rattle.graph.proofs.sound.edges_made.Goals as goal

pub loop-end-init : goal.loop-end-init
loop-end-init c = words_none _ _

pub loop-end-preserved : goal.loop-end-preserved
loop-end-preserved c =
    let long : length (take (edge_words * c.args.held) c.args.edges.now) ≡ edge_words * c.args.held = length-take-le _ _ c.requires in
    rw (get_or-take (edge_words * c.args.held) c.args.edges.now c.loop-end.end-index 0 (omega (arith, long, c.loop-end-test.true)))
    (words_more _ _ _ c.loop-end.invariant)

pub returns : goal.returns
returns c =
    let long : length (take (edge_words * c.args.held) c.args.edges.now) ≡ edge_words * c.args.held = length-take-le _ _ c.requires in
    words_all _ _ _ c.loop-end.end-index (omega (arith, long, c.loop-end.auto.end-index-end))
    (omega (arith, long, c.loop-end-test.false)) c.loop-end.invariant
