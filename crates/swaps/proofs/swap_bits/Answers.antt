-- `swaps::swap_bits` meets its contract: SWAP does not mind the order of its qubits. Assumes nothing.
use Rattle.pairs.proofs.Swap.{swap_either}
use Rattle.swaps.proofs.swap_bits.Goals as goal

pub returns-then-t1-t0 : goal.returns-then-t1-t0
returns-then-t1-t0 c = swap_either _ _ _ _ c.swap_upwards.ensures
