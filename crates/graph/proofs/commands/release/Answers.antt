-- A refusal that is due ends the call with everything as it was; with none due, what is stored is what the definition leaves.
use Rattle.graph.specs.Commands.{release}
use Rattle.graph.proofs.CallLaws.{refused_outcome}
use Rattle.graph.proofs.commands.release.Goals as goal

pub returns-in_err-release_refusal : goal.returns-in_err-release_refusal
unfolding release
returns-in_err-release_refusal c = refused_outcome _ _ _ _ _ _ _ c.from_residual.ensures.1 c.in_err-release_refusal.ensures
