-- The two terms of F, over a format f: what the steps of their sum take and hand on. Definitions only. Assumes nothing.
use Rattle.std.specs.Prelude.{◌≡◌, ℕ, ◌+◌, ◌*◌, ◌/◌, ◌%◌, ◌^◌, ◌≤◌, ◌<◌, Bool, false, cond, ◌&&◌, pos, Float}
use Rattle.std.specs.Float.{fin, Format}
use Rattle.std.specs.Float.Ieee.{prec, low, unlike, sum}
use Rattle.numbers.specs.Fused.{fused}
use Rattle.operands.specs.Operands.{ordinary}
use Rattle.rounding.specs.Working.{far}

-- the upper of the two limbs of a number of 128 digits
abbrev pub upper : ℕ → ℕ
upper w = w / 2 ^ 64

-- w * 2 ^ a, a product, and m * 2 ^ b, the term that is added, in working units: both are even, and the larger one is long enough for the smaller to be cut
pub record Terms (f : Format) (w a m b : ℕ) : Type 0 where
  pub even : w % 2 ≡ 0
  pub most : w < 2 ^ (64 + prec f)
  pub long : b < a → 2 ^ 63 ≤ w
  pub even' : m % 2 ≡ 0
  pub most' : m < 2 ^ 63
  pub long' : low f + 6 < b → 2 ^ 62 ≤ m
  pub near : a < far f
  pub near' : b < far f

-- the sum of a product and a term, each number m * 2 ^ e smallest values: both are counted in the smallest value's square
abbrev pub multiply_add : Format → Bool → ℕ → ℕ → Bool → ℕ → ℕ → Bool → ℕ → ℕ → Float
multiply_add f s m e t n d u p g = sum f (unlike s t) (m * 2 ^ e * (n * 2 ^ d)) u (p * 2 ^ g * 2 ^ low f) (2 ^ (low f + low f))

-- F of three ordinary numbers, and +0 where one is not ordinary
abbrev pub of_ordinary : Format → Float → Float → Float → Float
of_ordinary f x y z = cond (ordinary x && (ordinary y && ordinary z)) (fused f x y z) (fin false 0 (pos 0))
