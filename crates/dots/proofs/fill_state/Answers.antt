-- `dots::fill_state` meets its contract: one row more in each turn. Assumes nothing.
use native.Mathlib.Omega.{arith}
use Rattle.matrices.proofs.Fills.{one_more}
use Rattle.dots.proofs.fill_state.Goals as goal

pub loop-row-preserved : goal.loop-row-preserved
loop-row-preserved c = one_more (omega arith) c.loop-row.invariant c.write_at.ensures c.row_dot-z.ensures
