-- The tests are the definition's, in the same order: `search dues` answers by those passed.
use Prim.Native.Nat.{◌+◌, ◌*◌, ◌≤◌}
use mathlib.Core.Path.{◌≡◌, sym}
use mathlib.Core.Bool.{true}
use native.Mathlib.Omega.{arith}
use lib.ListN.{length}
use Rattle.graph.specs.Tables.{Lent, lent, vertex_words}
use Rattle.graph.proofs.SoundChecks.{sound_rows}
use Rattle.machine.specs.Stepping.{steppable, due}
use Rattle.engine.proofs.DueLaws.{steppable-sound, due_item, dues}
use Rattle.engine.proofs.next.next_due.Goals as goal

-- a refusal
pub returns-then-not-is_steppable : goal.returns-then-not-is_steppable
unfolding due
returns-then-not-is_steppable c = search dues

pub returns-then-tally-vertex : goal.returns-then-tally-vertex
unfolding due
returns-then-tally-vertex c = search dues

pub returns-then-vertices-at-eq-NEW : goal.returns-then-vertices-at-eq-NEW
unfolding due
returns-then-vertices-at-eq-NEW c = search dues depth 12

pub returns-then-vertices-at-eq-FINISHED : goal.returns-then-vertices-at-eq-FINISHED
unfolding due
returns-then-vertices-at-eq-FINISHED c = search dues depth 12

-- what the item asks for
pub returns : goal.returns
returns c =
    let tables : Lent =
    lent c.args.vertices.now c.args.edges.now c.args.tally in
    let takes_steps : steppable tables ≡ true =
    sym c.if-not-is_steppable.ensures in
    due_item _ _ _ _ _ c.requires takes_steps c.if-tally-vertex.false c.if-vertices-at-eq-NEW.false
    c.if-vertices-at-eq-FINISHED.false c.own_words.ensures
    c.by_item.ensures

pub bounds-vertices-at : goal.bounds-vertices-at
bounds-vertices-at c =
    let tables : Lent =
    lent c.args.vertices.now c.args.edges.now c.args.tally in
    let takes_steps : steppable tables ≡ true =
    sym c.if-not-is_steppable.ensures in
    let rows : vertex_words * c.args.tally.made ≤ length c.args.vertices.now =
    (sound_rows tables (steppable-sound tables takes_steps)).0 in
    let row : vertex_words * c.args.vertex + vertex_words ≤ length c.args.vertices.now =
    omega (arith, c.if-tally-vertex.false, rows) in
    omega (arith, row)

pub bounds-vertices-at-2 : goal.bounds-vertices-at-2
bounds-vertices-at-2 c =
    let tables : Lent =
    lent c.args.vertices.now c.args.edges.now c.args.tally in
    let takes_steps : steppable tables ≡ true =
    sym c.if-not-is_steppable.ensures in
    let rows : vertex_words * c.args.tally.made ≤ length c.args.vertices.now =
    (sound_rows tables (steppable-sound tables takes_steps)).0 in
    let row : vertex_words * c.args.vertex + vertex_words ≤ length c.args.vertices.now =
    omega (arith, c.if-tally-vertex.false, rows) in
    omega (arith, row)

pub own_words-requires : goal.own_words-requires
own_words-requires c =
    let tables : Lent =
    lent c.args.vertices.now c.args.edges.now c.args.tally in
    let takes_steps : steppable tables ≡ true =
    sym c.if-not-is_steppable.ensures in
    let rows : vertex_words * c.args.tally.made ≤ length c.args.vertices.now =
    (sound_rows tables (steppable-sound tables takes_steps)).0 in
    let row : vertex_words * c.args.vertex + vertex_words ≤ length c.args.vertices.now =
    omega (arith, c.if-tally-vertex.false, rows) in
    row

pub bounds-vertices-at-3 : goal.bounds-vertices-at-3
bounds-vertices-at-3 c =
    let tables : Lent =
    lent c.args.vertices.now c.args.edges.now c.args.tally in
    let takes_steps : steppable tables ≡ true =
    sym c.if-not-is_steppable.ensures in
    let rows : vertex_words * c.args.tally.made ≤ length c.args.vertices.now =
    (sound_rows tables (steppable-sound tables takes_steps)).0 in
    let row : vertex_words * c.args.vertex + vertex_words ≤ length c.args.vertices.now =
    omega (arith, c.if-tally-vertex.false, rows) in
    omega (arith, row)

pub by_item-requires : goal.by_item-requires
by_item-requires c =
    let tables : Lent =
    lent c.args.vertices.now c.args.edges.now c.args.tally in
    let takes_steps : steppable tables ≡ true =
    sym c.if-not-is_steppable.ensures in
    let rows : vertex_words * c.args.tally.made ≤ length c.args.vertices.now =
    (sound_rows tables (steppable-sound tables takes_steps)).0 in
    (c.item_at-item.ensures.0, rows)
