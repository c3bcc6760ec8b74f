use Prim.Native.Nat.{ℕ, ◌<◌}
use mathlib.Core.Path.{◌≡◌}
use mathlib.Core.Bool.{true}
use mathlib.Core.List.{List}
use native.Mathlib.Omega.{arith}
use borrow.Author.Tests.{ltb-true}
use Rattle.graph.specs.Tables.{usable_limit, source, target}
use Rattle.graph.specs.Sound.{ends_made, edges_made}
use Rattle.graph.proofs.TestLaws.{both_left, both_right, every_at}
use Rattle.index.proofs.LinkLaws.{none_indexed, same_rows_more}
use Rattle.index.proofs.rows.take_in.Goals as goal

pub loop-i-init : goal.loop-i-init
loop-i-init c = (omega arith, none_indexed c.requires.0, λ i lt. absurd (omega arith))

-- the ends of the row at hand are usable vertices
usable :
    (edges : List ℕ) (held i : ℕ) → edges_made edges usable_limit held ≡ true → i < held → (source edges i < usable_limit) × (target edges i < usable_limit)
unfolding edges_made ends_made
usable edges held i made lt =
    let ends = every_at _ _ made i lt in
    (ltb-true _ _ (both_left _ _ ends), ltb-true _ _ (both_right _ _ ends))

pub append-requires : goal.append-requires
append-requires c =
    let (s, t) = usable c.args.edges.now _ c.loop-i.i c.requires.3 c.loop-i-test.true in
    (c.loop-i.invariant.1, omega arith, s, t)

pub loop-i-preserved : goal.loop-i-preserved
loop-i-preserved c =
    let (indexed, rows) = c.append.ensures in (
      omega arith,
      indexed,
      same_rows_more _ c.append.new.index c.args.edges.now _ c.loop-i.invariant.1 (omega arith)
          c.loop-i.invariant.2 rows,
    )
