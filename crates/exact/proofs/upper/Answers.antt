-- `exact::upper` meets its contract: the bits are rounded as the significand is, and 64 of them hold the sum. Assumes nothing.
use Prim.Native.Nat.{◌*◌, ◌^◌}
use mathlib.Core.Bool.{not}
use lib.Dec.{T}
use lib.Ieee.{Float, binary64, low, is_nan}
use Rattle.exact.specs.Steps.{Near}
use Rattle.exact.proofs.Written.{number}
use Rattle.exact.proofs.UpperPart.{upper_number, halved}
use Rattle.exact.proofs.upper.Goals as goal

to_bits_lem : (x : Float) → Near binary64 x → T (not (is_nan x))
to_bits_lem x N = number x N.sgn (N.q * 2 ^ N.k) (2 ^ low binary64) N.has

pub float_to_bits-result : goal.float_to_bits-result
float_to_bits-result c = to_bits_lem c.args.x c.requires

pub float_from_bits-result : goal.float_from_bits-result
float_from_bits-result c = upper_number binary64 c.args.x c.requires

pub returns : goal.returns
returns c = halved binary64 c.args.x c.requires
