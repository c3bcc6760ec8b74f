-- Tests, and what is tested of the first n numbers.
use Rattle.std.specs.Prelude.{ℕ, zero, suc, ◌+◌, Bool, true, false, cond}
use Rattle.std.proofs.Math.Option.{Option, none, some}

unfoldable pub both : Bool → Bool → Bool
both true b = b
both false b = false

unfoldable pub either : Bool → Bool → Bool
either true b = true
either false b = b

-- p holds of each number below n
unfoldable pub every : (ℕ → Bool) → ℕ → Bool
every p zero = true
every p (suc n) = both (p n) (every p n)

-- p holds of some number below n
unfoldable pub any : (ℕ → Bool) → ℕ → Bool
any p zero = false
any p (suc n) = either (p n) (any p n)

-- p holds of so many of the numbers below n
unfoldable pub how_many : (ℕ → Bool) → ℕ → ℕ
how_many p zero = 0
how_many p (suc n) = how_many p n + cond (p n) 1 0

-- the lowest number below n of which a test holds
unfoldable pub or_this : Option ℕ → Bool → ℕ → Option ℕ
or_this (some k) b n = some k
or_this none true n = some n
or_this none false n = none

unfoldable pub lowest_below : (ℕ → Bool) → ℕ → Option ℕ
lowest_below p zero = none
lowest_below p (suc n) = or_this (lowest_below p n) (p n) n
