-- `takes_edge` meets its contract: with its ends in order an edge is taken if it adds nothing, else if none of the last refusals is due.
use Prim.Native.Nat.{◌<◌}
use mathlib.Core.Path.{sym, ◌∙◌}
use native.Mathlib.Omega.{arith}
use Rattle.graph.specs.declared.Command.TheVariants.{NewEdge}
use Rattle.graph.specs.Tables.{usable_limit}
use Rattle.index.proofs.CommandLaws.{due_told, is_due, none_due, made_rows}
use Rattle.index.proofs.EdgeCommands.{ends_there, edge_due}
use Rattle.index.proofs.LookLaws.{number_foretells, ends_foretold, nothing_foretold}
use Rattle.index.proofs.looks.takes_edge.Goals as goal

pub ends_refusal-requires : goal.ends_refusal-requires
ends_refusal-requires c = let pre = c.requires in (pre.1, made_rows pre.0)

pub returns-then-is_err : goal.returns-then-is_err
returns-then-is_err c =
    let (r, is) = is_due _ (sym c.is_err.ensures.value ∙ c.if-is_err.true) in ends_foretold c.requires.0 _ _ _ c.ends_refusal.ensures r is

pub adds_nothing-requires : goal.adds_nothing-requires
adds_nothing-requires c =
    let ends : (c.args.source < c.args.course.tally.made) × (c.args.target < c.args.course.tally.made) =
    ends_there c.requires.0 _ _ _ c.ends_refusal.ensures (none_due _ (sym c.is_err.ensures.value ∙ c.if-is_err.false)) in
    let ready = c.requires.0 in record {
      indexed = (ready.indexed, ready.live);
      source_lt_made = ((ends).0, made_rows ready);
    }

pub returns-then-adds_nothing : goal.returns-then-adds_nothing
returns-then-adds_nothing c =
    nothing_foretold c.requires.0 _ _ _ c.ends_refusal.ensures (none_due _ (sym c.is_err.ensures.value ∙ c.if-is_err.false)) c.adds_nothing.ensures
    c.if-adds_nothing.true

pub append_refusal-requires : goal.append_refusal-requires
append_refusal-requires c =
    let ends : (c.args.source < c.args.course.tally.made) × (c.args.target < c.args.course.tally.made) =
    ends_there c.requires.0 _ _ _ c.ends_refusal.ensures (none_due _ (sym c.is_err.ensures.value ∙ c.if-is_err.false)) in
    let usable : (c.args.source < usable_limit) × (c.args.target < usable_limit) =
    omega (arith, ends, made_rows c.requires.0) in
    let ready = c.requires.0 in
    record {
      indexed = (ready.indexed, ready.live);
      held_le_peak = (ready.below_peak, ready.within, (usable).0, (usable).1);
    }

pub returns : goal.returns
returns c =
    let ready = c.requires.0 in
    rw (c.is_ok.ensures.value, due_told c.append_refusal.result)
    (number_foretells ready (NewEdge _ _ _)
    (edge_due ready _ _ _ c.ends_refusal.ensures (none_due _ (sym c.is_err.ensures.value ∙ c.if-is_err.false)) c.adds_nothing.ensures
    c.if-adds_nothing.false c.append_refusal.ensures))
