-- `transfer` meets its contract. A refusal that is due leaves everything as it was; with none due, what is stored is what the definition leaves.
use mathlib.Core.Path.{refl}
use native.Mathlib.Omega.{arith}
use Rattle.graph.specs.declared.Command.TheVariants.{Transfer}
use Rattle.graph.specs.Commands.{transfer_refusal}
use Rattle.index.proofs.CommandLaws.{made_rows, refused_changes}
use Rattle.index.proofs.EdgeCommands.{transfer_ends, transfer_changes}
use Rattle.index.proofs.commands.transfer.Goals as goal

pub transfer_refusal-requires : goal.transfer_refusal-requires
transfer_refusal-requires c =
    let pre = c.requires in
    record {
      indexed = (pre.0.indexed, pre.0.live);
      executes = (pre.1, made_rows pre.0);
    }

pub returns-in_err-transfer_refusal : goal.returns-in_err-transfer_refusal
unfolding transfer_refusal
returns-in_err-transfer_refusal c =
    let pre = c.requires in
    refused_changes pre.0 (Transfer _ _) _ _ c.from_residual.ensures.1
    (λ e rows. c.in_err-transfer_refusal.ensures e (pre.0.sound e rows))

pub move_out-requires : goal.move_out-requires
move_out-requires c =
    let pre = c.requires in
    let (from, to, apart, none) = transfer_ends pre.0 _ _ c.in_ok-transfer_refusal.ensures refl in
    (pre.0.indexed, from, omega arith, apart, λ z. none)

pub returns : goal.returns
returns c =
    let pre = c.requires in
    let moved = c.move_out.ensures in
    rw c.opening_nobody.ensures
    (transfer_changes pre.0 _ _ c.in_ok-transfer_refusal.ensures refl _ _ _ moved.0 moved.1)
