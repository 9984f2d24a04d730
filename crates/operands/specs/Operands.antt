-- What is told of an operand: whether it is zero or an ordinary number, and such a number's fields, over a format f. Definitions only. Assumes nothing.
use Rattle.std.specs.Prelude.{ℕ, ◌*◌, ◌^◌, ◌≤◌, ◌<◌, Bool, false, not, eqb, Float}
use Rattle.std.specs.Float.{nan, inf, fin, Format}
use Rattle.std.specs.Float.Ieee.{prec, emax, hid}

-- ---- tests: a zero of either sign; and a number that is finite and not zero
abbrev pub is_zero : Float → Bool
is_zero nan = false
is_zero (inf s) = false
is_zero (fin s m e) = eqb m 0

abbrev pub ordinary : Float → Bool
ordinary nan = false
ordinary (inf s) = false
ordinary (fin s m e) = not (eqb m 0)

-- the fields of an ordinary number: m * 2 ^ e smallest values
pub record Fields (f : Format) (m e : ℕ) : Type 0 where
  pub some : 0 < m
  pub most : m < 2 ^ prec f
  pub full : 0 < e → hid f ≤ m
  pub near : e < 2 * emax f
