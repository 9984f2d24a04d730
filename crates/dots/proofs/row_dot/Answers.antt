-- `dots::row_dot` meets its contract: one inner index more in each turn. Assumes nothing.
use mathlib.Core.Path.{◌∙◌}
use Rattle.matrices.proofs.Fills.{zero_is}
use Rattle.dots.proofs.Rows.{state_none, state_more}
use Rattle.dots.proofs.row_dot.Goals as goal

pub loop-inner-init : goal.loop-inner-init
loop-inner-init c = zero_is ∙ state_none _ _ _

pub loop-inner-preserved : goal.loop-inner-preserved
loop-inner-preserved c = state_more _ _ _ _ c.loop-inner.invariant c.read_at-a.ensures c.read_at-b.ensures c.add_product-sum.ensures
