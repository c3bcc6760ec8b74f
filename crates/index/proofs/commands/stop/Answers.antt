-- `stop` meets its contract: what is stored is what the definition leaves, and only the targets of dropped rows may step that could not before.
use native.Mathlib.Omega.{arith}
use Rattle.index.proofs.CommandLaws.{made_rows}
use Rattle.index.proofs.EdgeCommands.{caller_usable, targets_made, drops_held, stop_changes}
use Rattle.index.proofs.commands.stop.Goals as goal

pub set_status-requires : goal.set_status-requires
set_status-requires c = omega (arith, made_rows c.requires.0)

pub lower_targets-lowered-requires : goal.lower_targets-lowered-requires
lower_targets-lowered-requires c =
    let pre = c.requires in record {
      indexed = (pre.0.indexed, caller_usable pre.0 _ pre.1);
      by_index = λ i lt q.
          omega (arith, made_rows pre.0, targets_made pre.0 _ pre.1 i lt q, c.set_status.auto.vertices);
    }

pub move_out-requires : goal.move_out-requires
move_out-requires c =
    let pre = c.requires in
    let usable = caller_usable pre.0 _ pre.1 in
    (pre.0.indexed, usable, omega arith, λ z. omega (arith, usable), λ z. absurd (omega arith))

pub overflow_sub-result : goal.overflow_sub-result
overflow_sub-result c = let pre = c.requires in drops_held pre.0 _ pre.1 c.lower_targets-lowered.ensures.1

pub returns : goal.returns
returns c =
    let pre = c.requires in
    let lowered = c.lower_targets-lowered.ensures in
    let moved = c.move_out.ensures in
    stop_changes pre.0 _ pre.1 lowered.1 _ moved.1 _ _ _ _ c.set_status.ensures
    lowered.0 moved.0 lowered.2
