-- `slow_swaps::copy` meets its contract: one place more in each turn. Assumes nothing.
use native.Mathlib.Omega.{arith}
use mathlib.Core.Path.{refl}
use Rattle.slow_swaps.proofs.Copies.{one_more, all_copied}
use Rattle.slow_swaps.proofs.copy.Goals as goal

pub loop-i-init : goal.loop-i-init
loop-i-init c = record { most = omega arith; size = refl; same = λ j l. absurd (omega arith) }

pub loop-i-preserved : goal.loop-i-preserved
loop-i-preserved c = one_more (omega (arith, c.loop-i.invariant.size)) c.loop-i.invariant

pub returns : goal.returns
returns c = all_copied c.requires (omega (arith, c.loop-i.invariant.size)) c.loop-i.invariant
