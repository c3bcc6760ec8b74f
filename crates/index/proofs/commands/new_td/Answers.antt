-- `new_td` meets its contract: a full table refuses it, else what is stored is what the definition leaves.
use Rattle.std.specs.Prelude.{Err}
use mathlib.Core.Path.{refl}
use native.Mathlib.Omega.{arith}
use Rattle.refusal.specs.declared.Reason.TheVariants.{NoVertexRow}
use Rattle.graph.specs.declared.Command.TheVariants.{NewTd}
use Rattle.graph.specs.Commands.{new_td_refusal, with_vertex}
use Rattle.graph.proofs.CallLaws.{halt, answered_full}
use Rattle.index.proofs.Widening.{widens_new}
use Rattle.index.proofs.CommandLaws.{own_refusal, runs, refused_changes, taken_changes}
use Rattle.index.proofs.commands.new_td.Goals as goal

pub returns-then-vertex_rows-made : goal.returns-then-vertex_rows-made
unfolding new_td_refusal
returns-then-vertex_rows-made c =
    let pre = c.requires in
    refused_changes pre.0 (NewTd _ _ _) (Err NoVertexRow) NoVertexRow refl
    (λ e rows.
    own_refusal _ _ _ _ (pre.0.sound e rows) pre.1 pre.1.0 pre.1.0
    (halt _ _ (answered_full c.vertex_rows.ensures c.if-vertex_rows-made.true)))

pub returns : goal.returns
unfolding with_vertex
returns c =
    let pre = c.requires in
    let made = c.make_row.ensures in
    rw c.opening_nobody.ensures
    (taken_changes pre.0 (NewTd _ _ _) _ _ _
    (λ e rows. (runs pre.0 _ pre.1 e rows, omega arith))
    (λ e rows. refl)
    (λ e rows. rw made)
    pre.0.indexed
    pre.0.live
    (pre.0.below_peak, pre.0.within)
    (rw made (widens_new _ _ _ _ _ _ _ (omega arith))))
