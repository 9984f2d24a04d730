-- `rounding::dropped` meets its contract: a limb has at most 64 digits, so nothing overflows. Assumes nothing.
use native.Mathlib.Omega.{arith}
use lib.Ieee.Digits.{size-le}
use Rattle.rounding.proofs.dropped.Goals as goal

pub overflow_add-digits : goal.overflow_add-digits
overflow_add-digits c = omega (arith, size-le c.args.s 64 (omega arith))
