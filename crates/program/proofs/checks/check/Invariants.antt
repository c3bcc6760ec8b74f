-- Before each byte that starts something, reading from there on, with the items that are open around it, comes to what reading the program does.
use Rattle.std.proofs.Common.{length, ◌-◌}
use Rattle.program.proofs.CheckLaws.{Checking}
use Rattle.program.proofs.checks.check.Given as goal

abbrev pub invariant-loop-place : goal.invariant-loop-place
invariant-loop-place l =
    Checking l.program l.fn.marks l.vertices l.marks l.openers l.behind l.depth l.opened l.made l.place

abbrev pub decreases-loop-place : goal.decreases-loop-place
decreases-loop-place l = length l.program - l.place
