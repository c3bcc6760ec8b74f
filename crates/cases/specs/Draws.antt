-- Numbers that look drawn, and are the same for the same seed.
use Rattle.std.specs.Prelude.{ℕ, ◌+◌, ◌*◌, ◌/◌, ◌%◌, cond, eqb}

abbrev pub next_state : ℕ → ℕ
next_state state = (state % 2147483648 * 1103515245 + 12345) % 2147483648

abbrev pub drawn_below : ℕ → ℕ → ℕ
drawn_below state limit = cond (eqb limit 0) 0 (state / 4096 % limit)
