-- Each reason has a number, and it is not 0.
use Prim.Native.Nat.{◌<◌}
use native.Mathlib.Omega.{arith}
use Rattle.refusal.specs.declared.Reason.{Reason}
use Rattle.refusal.specs.Reasons.{number}

pub number_positive : (r : Reason) → 0 < number r
number_positive r = grind arith
