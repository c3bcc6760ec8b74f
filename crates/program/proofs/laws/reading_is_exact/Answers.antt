-- The theorems, as they are proved.
use Rattle.program.proofs.Exactness as Exactness
use Rattle.program.proofs.laws.reading_is_exact.Goals as goal

pub returns-clause-exactly : goal.returns-clause-exactly
returns-clause-exactly c = Exactness.reading_exact

pub returns-clause-sound : goal.returns-clause-sound
returns-clause-sound c = Exactness.reading_sound

pub returns-clause-unique : goal.returns-clause-unique
returns-clause-unique c = Exactness.encode_unique
