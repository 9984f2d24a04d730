-- `swaps::exchange` meets its contract: the pairs of the keys that have both bits are swept by X. Assumes nothing.
use native.Mathlib.Omega.{arith}
use Rattle.pairs.proofs.Swap as S
use Rattle.swaps.proofs.exchange.Goals as goal

pub overflow_add-bit0 : goal.overflow_add-bit0
overflow_add-bit0 c = omega (arith, S.swap_small c.requires.1 c.args.low c.requires.0)

pub sweep-requires : goal.sweep-requires
sweep-requires c = S.swap_asks c.requires.1 c.args.low c.requires.0

pub returns : goal.returns
returns c = S.swap_swept c.requires.1 c.args.low c.requires.0 c.sweep.ensures
