-- The theorems, as they are proved.
use Rattle.machine.proofs.AheadUnique.{apart_once, jobs_stand}
use Rattle.machine.proofs.AheadIsPre.{ahead_is_pre}
use Rattle.machine.proofs.laws.which_job_comes_ahead.Goals as goal

pub returns-clause-once : goal.returns-clause-once
returns-clause-once c t p q c' d ks ls = apart_once t p q

pub returns-clause-stand : goal.returns-clause-stand
returns-clause-stand c = jobs_stand

pub returns-clause-recursion : goal.returns-clause-recursion
returns-clause-recursion c = ahead_is_pre
