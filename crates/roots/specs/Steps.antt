-- What the steps of a root take and hand on: each record's bounds are those that the next step needs. Definitions only. Assumes nothing.
use Rattle.std.specs.Prelude.{◌≡◌, ℕ, suc, ◌+◌, ◌*◌, ◌^◌, ◌≤◌, ◌<◌}
use Rattle.std.specs.Float.{Format}
use Rattle.std.specs.Float.Ieee.{prec, emax, low, hid}
use Rattle.rounding.specs.Odd.{to_odd}

-- h is the whole root of t, and s is 2 * h, rounded to odd by what is left over
pub record Rooted (t s : ℕ) : Type 0 where
  pub h : ℕ
  pub rest : ℕ
  pub square : h * h + rest ≡ t
  pub little : rest ≤ 2 * h
  pub marked : s ≡ to_odd (2 * h) rest

-- one more digit of a root: q and r are the root and the rest so far, and a the 64 digits to come
pub record Stepped (a q r a' q' r' : ℕ) : Type 0 where
  pub square : (q' * q' + r') * 2 ^ 64 + a' ≡ ((q * q + r) * 2 ^ 64 + a) * 4
  pub little : r' ≤ 2 * q'
  pub most : q' ≤ 2 * q + 1
  pub fits : a' < 2 ^ 64

-- m * 2 ^ e smallest values, squared in unit, as n times a power of four: n has prec digits or one more
pub record Squared (f : Format) (m e n g : ℕ) : Type 0 where
  pub same : n * 4 ^ g ≡ m * 2 ^ (e + low f)
  pub least : hid f ≤ n
  pub most : n < 2 ^ suc (prec f)
  pub far : 30 ≤ g
  pub near : g < 2 * suc (emax f)
