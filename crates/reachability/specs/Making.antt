-- An order of the rows in the making, from one row to the next.
use Rattle.std.specs.Prelude.{◌≡◌}
use Rattle.reachability.specs.declared.order.Order.{Order}

-- the same words are still written, and as many rows are used
pub record GoesOn (before after : Order) : Type 0 where
  pub same_words : after.rows.ghost_name ≡ before.rows.ghost_name
  pub same_used : after.used ≡ before.used
