-- One that may start can step; another one cannot where it does not execute.
use Prim.Native.Nat.{◌≤◌, ◌+◌, ◌*◌}
use mathlib.Core.Path.{sym, ◌∙◌}
use native.Mathlib.Omega.{arith}
use lib.ListN.{length}
use borrow.Author.Tests.{ne_eqb}
use Rattle.graph.specs.Tables.{Lent, vertex_words}
use Rattle.graph.specs.OfTables.{lent_of}
use Rattle.graph.proofs.SoundChecks.{sound_rows}
use Rattle.engine.proofs.CandidateLaws.{start_can, barred}
use Rattle.engine.proofs.look.can_step.Goals as goal

pub returns-then-may_start : goal.returns-then-may_start
returns-then-may_start c = sym (start_can _ _ _ _ c.args.tables.now.sound c.requires.0 c.requires.1 c.may_start.ensures c.if-may_start.true)

pub returns-else-vertices-vertex-eq-EXECUTING : goal.returns-else-vertices-vertex-eq-EXECUTING
returns-else-vertices-vertex-eq-EXECUTING c =
    ne_eqb _ _ c.if-vertices-vertex-eq-EXECUTING.false
    ∙ sym (barred _ _ _ _ c.args.tables.now.sound c.requires.1 c.may_start.ensures c.if-may_start.false c.if-vertices-vertex-eq-EXECUTING.false)

pub may_start-requires : goal.may_start-requires
may_start-requires c =
    let tables : Lent =
    lent_of c.args.tables.now in
    let row : vertex_words * c.args.vertex + vertex_words ≤ length c.args.tables.now.vertices.now =
    omega (arith, c.requires.1, (sound_rows tables c.args.tables.now.sound).0) in
    row

pub bounds-vertices-vertex : goal.bounds-vertices-vertex
bounds-vertices-vertex c =
    let tables : Lent =
    lent_of c.args.tables.now in
    let row : vertex_words * c.args.vertex + vertex_words ≤ length c.args.tables.now.vertices.now =
    omega (arith, c.requires.1, (sound_rows tables c.args.tables.now.sound).0) in
    omega (arith, row)
