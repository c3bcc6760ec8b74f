-- The theorems, as they are proved.
use Rattle.machine.proofs.LoadLaws.{load_keeps, load_place, load_usable}
use Rattle.machine.proofs.laws.loads.Goals as goal

pub returns-clause-keeps : goal.returns-clause-keeps
returns-clause-keeps c = load_keeps

pub returns-clause-place : goal.returns-clause-place
returns-clause-place c = load_place

pub returns-clause-usable : goal.returns-clause-usable
returns-clause-usable c = load_usable
