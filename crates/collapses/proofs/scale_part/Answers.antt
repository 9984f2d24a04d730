-- `collapses::scale_part` meets its contract: one place more in each turn. Assumes nothing.
use mathlib.Core.Path.{refl}
use Rattle.collapses.proofs.Stretches.{one_more}
use Rattle.collapses.proofs.scale_part.Goals as goal

pub loop-i-preserved : goal.loop-i-preserved
loop-i-preserved c = one_more _ c.requires c.loop-i.auto.i c.loop-i-test.true c.loop-i.invariant refl
