-- `new_edge` meets its contract. A refusal that is due leaves everything as it was; with none due, nothing is added, or what is stored is what
-- the definition leaves.
use Prim.Native.Nat.{◌<◌}
use mathlib.Core.Path.{refl}
use native.Mathlib.Omega.{arith}
use Rattle.graph.specs.declared.Command.TheVariants.{NewEdge}
use Rattle.graph.specs.Tables.{usable_limit}
use Rattle.graph.specs.Commands.{new_edge_refusal}
use Rattle.graph.proofs.CallLaws.{ends_due}
use Rattle.index.proofs.CommandLaws.{made_rows, refused_changes}
use Rattle.index.proofs.EdgeCommands.{ends_there, edge_nothing, edge_due, edge_room, edge_changes}
use Rattle.index.proofs.commands.new_edge.Goals as goal

pub ends_refusal-requires : goal.ends_refusal-requires
ends_refusal-requires c = let pre = c.requires in (pre.1, made_rows pre.0)

pub returns-in_err-ends_refusal : goal.returns-in_err-ends_refusal
unfolding new_edge_refusal
returns-in_err-ends_refusal c =
    let pre = c.requires in
    refused_changes pre.0 (NewEdge _ _ _) _ _ c.from_residual.ensures.1
    (λ e rows. ends_due _ _ _ _ _ _ (c.in_err-ends_refusal.ensures _ (pre.0.sound e rows)))

pub adds_nothing-requires : goal.adds_nothing-requires
adds_nothing-requires c =
    let ends : (c.args.source < c.args.course.tally.made) × (c.args.target < c.args.course.tally.made) =
    ends_there c.requires.0 _ _ _ c.in_ok-ends_refusal.ensures refl in
    let ready = c.requires.0 in record {
      indexed = (ready.indexed, ready.live);
      source_lt_made = ((ends).0, made_rows ready);
    }

pub returns-then-adds_nothing : goal.returns-then-adds_nothing
returns-then-adds_nothing c =
    rw c.opening_nobody.ensures
    (edge_nothing c.requires.0 _ _ _ c.in_ok-ends_refusal.ensures refl
    c.adds_nothing.ensures _ _ c.if-adds_nothing.true)

pub append_refusal-requires : goal.append_refusal-requires
append_refusal-requires c =
    let ends : (c.args.source < c.args.course.tally.made) × (c.args.target < c.args.course.tally.made) =
    ends_there c.requires.0 _ _ _ c.in_ok-ends_refusal.ensures refl in
    let usable : (c.args.source < usable_limit) × (c.args.target < usable_limit) =
    omega (arith, ends, made_rows c.requires.0) in
    let ready = c.requires.0 in
    record {
      indexed = (ready.indexed, ready.live);
      held_le_peak = (ready.below_peak, ready.within, (usable).0, (usable).1);
    }

pub returns-in_err-append_refusal : goal.returns-in_err-append_refusal
returns-in_err-append_refusal c =
    refused_changes c.requires.0 (NewEdge _ _ _) _ _ c.from_residual-in_err-append_refusal.ensures.1
    (edge_due c.requires.0 _ _ _ c.in_ok-ends_refusal.ensures refl
    c.adds_nothing.ensures c.if-adds_nothing.false
    c.in_err-append_refusal.ensures)

pub append-requires : goal.append-requires
append-requires c =
    let ends : (c.args.source < c.args.course.tally.made) × (c.args.target < c.args.course.tally.made) =
    ends_there c.requires.0 _ _ _ c.in_ok-ends_refusal.ensures refl in
    let usable : (c.args.source < usable_limit) × (c.args.target < usable_limit) =
    omega (arith, ends, made_rows c.requires.0) in
    let pre = c.requires in
    (pre.0.indexed, pre.2, (usable).0, (usable).1)

pub more_into-requires : goal.more_into-requires
more_into-requires c =
    let ends : (c.args.source < c.args.course.tally.made) × (c.args.target < c.args.course.tally.made) =
    ends_there c.requires.0 _ _ _ c.in_ok-ends_refusal.ensures refl in
    omega (arith, ends, made_rows c.requires.0)

pub one_more_edge-requires : goal.one_more_edge-requires
one_more_edge-requires c =
    let pre = c.requires in
    let room =
    edge_room pre.0 _ _ _ c.in_ok-ends_refusal.ensures refl
    c.adds_nothing.ensures c.if-adds_nothing.false
    c.in_ok-append_refusal.ensures refl in
    (omega (arith, room, pre.0.few), pre.2)

pub returns : goal.returns
returns c =
    let pre = c.requires in
    let appended = c.append.ensures in
    rw (c.opening_nobody-2.ensures, c.one_more_edge.ensures, c.more_into.ensures)
    (edge_changes pre.0 _ _ _ c.in_ok-ends_refusal.ensures refl
    c.adds_nothing.ensures c.if-adds_nothing.false
    c.in_ok-append_refusal.ensures refl
    _ _ _ pre.2 appended.0 appended.1)
