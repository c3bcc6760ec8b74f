-- After i turns it is told of the first i pairs.
use Prim.Native.Nat.{ℕ, ◌≤◌, ◌<◌}
use mathlib.Core.Path.{◌≡◌}
use lib.ListN.{length, get_or}
use Rattle.reachability.specs.declared.pairs.Telling.TheVariants.{Nothing}
use Rattle.reachability.specs.Marks.{word, Says}
use Rattle.reachability.proofs.pairs.tell_each.Given as goal

abbrev pub invariant-loop-i : goal.invariant-loop-i
invariant-loop-i l =
    (l.i-end ≡ length l.goals) × (l.i ≤ l.i-end) × (length l.told ≡ length l.goals) × ((j : ℕ) → j < l.i → Says j l.held (word l.labels (get_or l.goals j 0)) (get_or l.told j Nothing))
