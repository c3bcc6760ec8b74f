-- After some turns the future at hand is so many futures out.
use Prim.Native.Nat.{◌<◌, ◌≤◌}
use Rattle.engine.proofs.FollowLaws.{Hopped}
use Rattle.engine.proofs.next.followed.Given as goal

abbrev pub invariant-loop : goal.invariant-loop
invariant-loop l = (l.counter ≤ l.number) × (l.future < l.made) × Hopped l.vertices l.made l.latest l.number l.future l.counter
