use Prim.Native.Nat.{ℕ, ◌<◌}
use mathlib.Core.Path.{refl, sym, subst}
use mathlib.Core.List.{List}
use native.Mathlib.Omega.{arith}
use lib.ListN.{length-set}
use Rattle.graph.specs.Tables.{target}
use Rattle.graph.specs.Internal.Search.{search_limit, Linked}
use Rattle.graph.proofs.RowLinks.{link_none, link_more, ends_made_lem}
use Rattle.graph.proofs.paths.link_rows.Goals as goal

pub loop-i-init : goal.loop-i-init
loop-i-init c =
    (refl, omega arith, refl, subst (λ (l : List ℕ). Linked c.args.edges.now 0 l c.args.next.now) (sym c.requires.first_value) (link_none _ _))

pub loop-i-preserved : goal.loop-i-preserved
loop-i-preserved c =
    let usable : target c.args.edges.now c.loop-i.i < search_limit =
    (ends_made_lem _ _ c.loop-i.i c.requires.rows (omega arith)).1 in
    (refl, omega arith, simp length-set (omega arith), link_more _ _ _ _ c.loop-i.invariant.3 usable (omega arith))

pub bounds-first-target : goal.bounds-first-target
bounds-first-target c =
    let usable : target c.args.edges.now c.loop-i.i < search_limit =
    (ends_made_lem _ _ c.loop-i.i c.requires.rows (omega arith)).1 in
    omega (arith, usable)

pub bounds-first-target-in-loop-i : goal.bounds-first-target-in-loop-i
bounds-first-target-in-loop-i c =
    let usable : target c.args.edges.now c.loop-i.i < search_limit =
    (ends_made_lem _ _ c.loop-i.i c.requires.rows (omega arith)).1 in
    omega (arith, usable)
