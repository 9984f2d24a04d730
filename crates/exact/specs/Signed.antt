-- A finite float as a signed count of the format's smallest value. The count is a difference a - b of whole numbers, taken with a sign s: so that sums,
-- differences and products of counts need no cases, and a zero's sign does not show. Definitions only. Assumes nothing.
use Rattle.std.specs.Prelude.{◌≡◌, ◌⊎◌, ℕ, ◌+◌, ◌*◌, ◌^◌, ◌≤◌, ◌<◌, Bool, true, false, Float}
use Rattle.std.specs.Bool.{beq}
use Rattle.std.specs.Float.{Format}
use Rattle.std.specs.Float.Ieee.{prec, low, round}
use Rattle.std.specs.Float.Ieee.Exact.{HasValue}
use Rattle.std.specs.Float.Ieee.Scale.{overflow}

-- a - b is n, or it is -n
abbrev pub Differ : Bool → ℕ → ℕ → ℕ → Type 0
Differ true n a b = a ≡ b + n
Differ false n a b = b ≡ a + n

-- x is a - b smallest values, with the sign s before it
pub record Is (f : Format) (x : Float) (s : Bool) (a b : ℕ) : Type 0 where
  pub sgn : Bool
  pub mag : ℕ
  pub has : HasValue x sgn mag (2 ^ low f)
  pub gap : Differ (beq sgn s) mag a b

-- x is a - b smallest values, rounded, with the sign s before it
pub record Rounds (f : Format) (x : Float) (s : Bool) (a b : ℕ) : Type 0 where
  pub sgn : Bool
  pub mag : ℕ
  pub is : x ≡ round f sgn mag (2 ^ low f)
  pub gap : Differ (beq sgn s) mag a b

-- a - b is a count that the format holds
pub record Held (f : Format) (a b : ℕ) : Type 0 where
  pub head : ℕ
  pub zeros : ℕ
  pub gap : (a ≡ b + head * 2 ^ zeros) ⊎ (b ≡ a + head * 2 ^ zeros)
  pub few : head ≤ 2 ^ prec f
  pub under : head * 2 ^ zeros < overflow f

-- a - b and c - d lie w apart at most
abbrev pub Within : ℕ → ℕ → ℕ → ℕ → ℕ → Type 0
Within w a b c d = (a + d ≤ b + c + w) × (b + c ≤ a + d + w)

-- no count that the format holds is nearer to a - b than c - d is
abbrev pub Nearest : Format → ℕ → ℕ → ℕ → ℕ → Type 0
Nearest f a b c d = (w u v : ℕ) → Held f u v → Within w a b u v → Within w a b c d
