-- `yield_caller` meets its contract: what is stored is what the definition leaves.
use mathlib.Core.Path.{refl}
use native.Mathlib.Omega.{arith}
use Rattle.graph.specs.declared.Command.TheVariants.{Yield}
use Rattle.index.proofs.Widening.{widens_yield}
use Rattle.index.proofs.CommandLaws.{made_rows, runs, taken_changes}
use Rattle.index.proofs.commands.yield_caller.Goals as goal

pub set_status-requires : goal.set_status-requires
set_status-requires c = omega (arith, made_rows c.requires.0)

pub returns : goal.returns
returns c =
    let pre = c.requires in
    let set = c.set_status.ensures in
    rw c.opening_nobody.ensures
    (taken_changes pre.0 (Yield _) _ _ _
    (runs pre.0 _ pre.1)
    (λ e rows. refl)
    (λ e rows. rw set)
    pre.0.indexed
    pre.0.live
    (pre.0.below_peak, pre.0.within)
    (rw set (widens_yield _ _ _ _ _ _ pre.1.1)))
