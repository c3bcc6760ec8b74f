-- A refusal that is due ends the call with everything as it was; with none due, what is stored is what the definition leaves.
use mathlib.Core.Path.{refl, sym}
use Rattle.graph.specs.Commands.{yield}
use Rattle.graph.proofs.CallLaws.{refused_outcome, accepted_outcome, yield_room}
use Rattle.graph.proofs.commands.yield_caller.Goals as goal

pub returns-in_err-stop_or_yield_refusal : goal.returns-in_err-stop_or_yield_refusal
unfolding yield
returns-in_err-stop_or_yield_refusal c = refused_outcome _ _ _ _ _ _ _ c.from_residual.ensures.1 c.in_err-stop_or_yield_refusal.ensures.yields

pub set_status-requires : goal.set_status-requires
set_status-requires c = yield_room _ _ (sym c.in_ok-stop_or_yield_refusal.ensures.yields)

pub returns : goal.returns
unfolding yield
returns c = accepted_outcome _ _ _ c.in_ok-stop_or_yield_refusal.ensures.yields (rw c.set_status.ensures refl)
