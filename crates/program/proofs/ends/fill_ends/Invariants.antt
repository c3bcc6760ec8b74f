-- From the last place down, the places from `place` on have their ends; the mark of the next one tells whether something starts there.
use Rattle.std.proofs.Common.{◌≡◌, ◌≤◌, length}
use Rattle.program.proofs.EndLaws.{Filled}
use Rattle.program.proofs.ends.fill_ends.Given as goal

abbrev pub invariant-loop-place : goal.invariant-loop-place
invariant-loop-place l =
    (l.place ≤ length l.program) × (length l.ends ≡ length l.fn.ends) × Filled l.program l.fn.ends l.ends l.place l.after
