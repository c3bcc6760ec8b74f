-- `release` meets its contract: a vertex that is not made or not new refuses it, else what is stored is what the definition leaves.
use Rattle.std.specs.Prelude.{Err}
use mathlib.Core.Path.{refl}
use native.Mathlib.Omega.{arith}
use borrow.Author.Tests.{ne_eqb}
use Rattle.refusal.specs.declared.Reason.TheVariants.{NoSuchVertex, ReleaseNotNew}
use Rattle.graph.specs.declared.Command.TheVariants.{Release}
use Rattle.graph.specs.Commands.{release_refusal}
use Rattle.graph.proofs.CallLaws.{halt}
use Rattle.index.proofs.Widening.{widens_release}
use Rattle.index.proofs.CommandLaws.{own_refusal, first_not_made, made_rows, runs, refused_changes, taken_changes}
use Rattle.index.proofs.commands.release.Goals as goal

pub returns-then-tally-vertex : goal.returns-then-tally-vertex
unfolding release_refusal
returns-then-tally-vertex c =
    let pre = c.requires in
    refused_changes pre.0 (Release _ _) (Err NoSuchVertex) NoSuchVertex refl
    (λ e rows. first_not_made _ _ _ _ _ (pre.0.sound e rows) c.if-tally-vertex.true)

pub bounds-vertices-vertex : goal.bounds-vertices-vertex
bounds-vertices-vertex c = omega (arith, made_rows c.requires.0)

pub returns-then-vertices-vertex-ne-NEW : goal.returns-then-vertices-vertex-ne-NEW
unfolding release_refusal
returns-then-vertices-vertex-ne-NEW c =
    let pre = c.requires in
    let is_made = c.if-tally-vertex.false in
    refused_changes pre.0 (Release _ _) (Err ReleaseNotNew) ReleaseNotNew refl
    (λ e rows. own_refusal _ _ _ _ (pre.0.sound e rows) pre.1 is_made is_made (halt _ _ (ne_eqb _ _ c.if-vertices-vertex-ne-NEW.true)))

pub set_status-requires : goal.set_status-requires
set_status-requires c = omega (arith, made_rows c.requires.0)

pub returns : goal.returns
returns c =
    let pre = c.requires in
    let set = c.set_status.ensures in
    taken_changes pre.0 (Release _ _) _ _ _
    (λ e rows. (runs pre.0 _ pre.1 e rows, c.if-tally-vertex.false, c.if-vertices-vertex-ne-NEW.false))
    (λ e rows. refl)
    (λ e rows. rw set)
    pre.0.indexed
    pre.0.live
    (pre.0.below_peak, pre.0.within)
    (rw set (widens_release _ _ _ _))
