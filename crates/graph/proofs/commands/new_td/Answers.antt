-- A refusal that is due ends the call with everything as it was; with none due, what is stored is what the definition leaves.
use Rattle.graph.specs.Commands.{new_td, with_vertex}
use Rattle.graph.proofs.CallLaws.{refused_outcome}
use Rattle.graph.proofs.commands.new_td.Goals as goal

pub returns-in_err-new_td_refusal : goal.returns-in_err-new_td_refusal
unfolding new_td with_vertex
returns-in_err-new_td_refusal c = refused_outcome _ _ _ _ _ _ _ c.from_residual.ensures.1 c.in_err-new_td_refusal.ensures
