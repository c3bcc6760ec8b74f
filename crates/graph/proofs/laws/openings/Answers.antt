-- The theorems, as they are proved.
use Rattle.graph.proofs.OpeningLaws as OpeningLaws
use Rattle.graph.proofs.laws.openings.Goals as goal

pub returns-clause-refused : goal.returns-clause-refused
returns-clause-refused c = OpeningLaws.opening_is_refused

pub returns-clause-keeps : goal.returns-clause-keeps
returns-clause-keeps c = OpeningLaws.opening_keeps

pub returns-clause-usable : goal.returns-clause-usable
returns-clause-usable c = OpeningLaws.opening_usable
