-- Which numbers of a format may be multiplied so that nothing is lost, and where their significands are cut. Definitions only. Assumes nothing.
use Rattle.std.specs.Prelude.{ℕ, suc, ◌+◌, ◌-◌, ◌*◌, ◌/◌}
use Rattle.std.specs.Float.{Format}
use Rattle.std.specs.Float.Ieee.{prec, emax, low}

-- the first exponent's field, and the first that is too large: a quarter of all exponents on either side of 1's are left
abbrev pub first : Format → ℕ
first f = 3 * (suc (emax f) / 4)

abbrev pub last : Format → ℕ
last f = 5 * (suc (emax f) / 4)

-- 2 ^ reach is the first number that is too large
abbrev pub reach : Format → ℕ
reach f = last f - emax f

-- a significand's upper part is a multiple of 2 ^ suc half
abbrev pub half : Format → ℕ
half f = prec f / 2

-- no exact product or term comes to 2 ^ widest smallest values
abbrev pub widest : Format → ℕ
widest f = 2 * prec f + 2 * last f - low f
