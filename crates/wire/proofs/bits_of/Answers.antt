-- `wire::bits_of` gives `to_bits` of every f64: the bits of a NaN are those of the one NaN. Assumes nothing.
use mathlib.Core.Path.{sym, ap}
use lib.Ieee.{binary64, to_bits}
use Rattle.numbers.proofs.Nan.{one_nan}
use Rattle.wire.proofs.bits_of.Goals as goal

pub returns-then-is_nan : goal.returns-then-is_nan
unfolding to_bits
returns-then-is_nan c = ap (to_bits binary64) (one_nan c.args.x (sym c.if-is_nan.ensures.value))
