use Prim.Native.Nat.{◌+◌, ◌*◌, ◌≤◌}
use mathlib.Core.Path.{◌∙◌, ap}
use native.Mathlib.Omega.{arith}
use lib.ListN.{length}
use Rattle.graph.specs.Tables.{vertex_words, target}
use Rattle.graph.proofs.EdgeLoops.{gathered_ahead, gathered_drops, gathered_keeps, lowered_skips, lowered_less}
use Rattle.graph.proofs.EdgeLoops.{target_fits}
use Rattle.graph.proofs.TableLaws.{length-lowered}
use Rattle.graph.proofs.edges.gather_others.Goals as goal

pub loop-i-init : goal.loop-i-init
loop-i-init c =
    let found = c.first_out_of-first.ensures in
    (found.within, gathered_ahead _ _ _ _ (omega (arith, found.within)) found.none_before)

-- the row whose in-count is lowered
room : (c : goal.After-less_into-arg-1) →
    vertex_words * target c.loop-i.edges c.loop-i.i
    + vertex_words ≤ length c.args.vertices.now
room c =
    target_fits _ _ c.args.vertices.now _ _
    c.requires.1
    c.loop-i-test.true
    c.loop-i.invariant.1.0.1

pub less_into-requires : goal.less_into-requires
less_into-requires c = omega (arith, room c, ap length c.loop-i.invariant.1.1 ∙ length-lowered _ _ _ _)

pub loop-i-preserved : goal.loop-i-preserved
loop-i-preserved c =
    let ((rows, gathered), lower) = c.loop-i.invariant.1 in (
      omega arith,
      elim c.if-source-vertex.branch [
        | goal.then-source-vertex w ↦
            rw (w.vertices-is, w.edges-is, w.kept-is) (gathered_drops _ _ _ rows gathered w.if-source-vertex.true, lowered_less _ _ _ _ lower gathered w.if-source-vertex.true w.less_into.ensures)
        | goal.else-source-vertex w ↦
            rw (w.vertices-is, w.edges-is, w.kept-is) (gathered_keeps _ _ _ rows gathered (omega arith) w.if-source-vertex.false, lowered_skips _ _ _ _ lower gathered w.if-source-vertex.false)
      ],
    )
