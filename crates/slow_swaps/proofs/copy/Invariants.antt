-- `slow_swaps::copy` meets its contract: one place more in each turn. Assumes nothing.
use Rattle.slow_swaps.proofs.Copies.{Copied}
use Rattle.slow_swaps.proofs.copy.Given as goal

abbrev pub invariant-loop-i : goal.invariant-loop-i
invariant-loop-i l = Copied l.from l.initial.to l.to l.i
