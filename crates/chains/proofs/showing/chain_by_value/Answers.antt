-- `chain_by_value` meets its contract: a reason is the refusal at no place.
use Rattle.chains.proofs.ReturnLaws.{handed_on}
use Rattle.chains.proofs.showing.chain_by_value.Goals as goal

pub returns-in_err-write_chain : goal.returns-in_err-write_chain
returns-in_err-write_chain c = handed_on _ _ _ c.from_residual.ensures.1 c.in_err-write_chain.ensures
