-- A refusal that is due ends the call with everything as it was; with none due, what is stored is what the definition leaves.
use Rattle.graph.specs.Commands.{start}
use Rattle.graph.proofs.CallLaws.{refused_outcome}
use Rattle.graph.proofs.commands.start_vertex.Goals as goal

pub returns-in_err-start_refusal : goal.returns-in_err-start_refusal
unfolding start
returns-in_err-start_refusal c = refused_outcome _ _ _ _ _ _ _ c.from_residual.ensures.1 c.in_err-start_refusal.ensures
