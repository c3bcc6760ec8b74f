-- Each return is a law of proofs/LoadedLaws.antt.
use Rattle.program.proofs.ProgressLaws.{passed_on}
use Rattle.engine.proofs.LoadedLaws.{load_unread, load_few_vertices, load_few_edges, load_enough}
use Rattle.engine.proofs.load.load_refusal.Goals as goal

pub returns-in_err-items : goal.returns-in_err-items
returns-in_err-items c = rw (passed_on _ _ c.from_residual.ensures) (load_unread _ _ _ _ c.in_err-items.ensures)

pub returns-then-vertex_rows-vertices : goal.returns-then-vertex_rows-vertices
returns-then-vertex_rows-vertices c =
    rw c.into.ensures (load_few_vertices _ _ _ _ _ c.in_ok-items.ensures c.vertex_rows.ensures c.vertices.ensures c.if-vertex_rows-vertices.true)

pub returns-then-edge_rows : goal.returns-then-edge_rows
returns-then-edge_rows c =
    rw c.into-then-edge_rows.ensures (load_few_edges _ _ _ _ _ c.in_ok-items.ensures c.vertex_rows.ensures c.vertices.ensures c.if-vertex_rows-vertices.false
    c.edge_rows.ensures c.edge_rows-2.ensures c.if-edge_rows.true)

pub returns : goal.returns
returns c =
    load_enough _ _ _ _ _ c.in_ok-items.ensures c.vertex_rows.ensures c.vertices.ensures c.if-vertex_rows-vertices.false
    c.edge_rows.ensures c.edge_rows-2.ensures c.if-edge_rows.false
