-- Nothing starts there; or the bytes from the place on begin with a body, and what that begins with stands there.
use Rattle.std.proofs.Common.{arith, refl, sym, ◌∙◌}
use Rattle.program.proofs.PlaceLaws.{starts_length, starting_room, starting_shown, not_starting}
use Rattle.program.proofs.EndedLaws.{starting_ended}
use Rattle.program.proofs.items.item_if_starts.Goals as goal

pub returns-then-not-starts : goal.returns-then-not-starts
returns-then-not-starts c = (rw c.into.ensures (sym (not_starting _ _ _ (sym c.requires.1 ∙ c.if-not-starts.true))), refl)

pub slice_bounds-item_here-count : goal.slice_bounds-item_here-count
slice_bounds-item_here-count c = omega (arith, starts_length _ _ _ (sym c.requires.1 ∙ c.if-not-starts.false))

pub slice_bounds-item_here-start : goal.slice_bounds-item_here-start
slice_bounds-item_here-start c = omega (arith, starts_length _ _ _ (sym c.requires.1 ∙ c.if-not-starts.false))

pub item_here-requires : goal.item_here-requires
item_here-requires c =
    let starts = sym c.requires.1 ∙ c.if-not-starts.false in
    rw c.at.ensures (starting_ended _ _ c.args.ends.now _ c.requires.0 starts, starting_room _ _ _ starts)

pub returns : goal.returns
returns c =
    let read = rw c.at.ensures at c.item_here.ensures in
    (starting_shown _ _ _ _ (sym c.requires.1 ∙ c.if-not-starts.false) read.0, read.1)
