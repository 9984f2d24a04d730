-- The unit that an answer is counted in before it is rounded, over a format f, and what can be packed. Definitions only. Assumes nothing.
use Rattle.std.specs.Prelude.{ℕ, suc, ◌+◌, ◌*◌, ◌^◌, ◌≤◌, ◌<◌}
use Rattle.std.specs.Float.{Format}
use Rattle.std.specs.Float.Ieee.{prec, emax, low, hid}

-- The working unit is the product of two smallest values, with 16 digits below it to spare.
-- It lies `below` digits under the smallest value, and n units are n / scale.
abbrev pub below : Format → ℕ
below f = low f + 16

abbrev pub scale : Format → ℕ
scale f = 2 ^ (below f + low f)

-- no exponent of a term comes so high
abbrev pub far : Format → ℕ
far f = 4 * suc (emax f)

-- what can be packed as q * 2 ^ k smallest values: q has prec digits or is 2 ^ prec, and it has them all where k is not 0
pub record Kept (f : Format) (q k : ℕ) : Type 0 where
  pub most : q ≤ 2 ^ prec f
  pub full : 0 < k → hid f ≤ q
  pub near : k < 4 * emax f
