-- Rounding to odd (Boldo and Melquiond): a number is cut, and the last digit that is left is made 1 where anything was cut off.
-- What is rounded to odd two digits or more below the place of a later rounding to nearest rounds there as the whole number does.
-- Definitions only. Assumes nothing.
use Rattle.std.specs.Prelude.{ℕ, ◌+◌, ◌*◌, ◌/◌, ◌%◌, ◌^◌, cond, eqb}

-- q, and where a rest r was left over, the odd one of q and q + 1
abbrev pub to_odd : ℕ → ℕ → ℕ
to_odd q r = cond (eqb r 0) q (q / 2 * 2 + 1)

-- n / 2 ^ k, rounded to odd
unfoldable pub cut_to_odd : ℕ → ℕ → ℕ
cut_to_odd n k = to_odd (n / 2 ^ k) (n % 2 ^ k)
