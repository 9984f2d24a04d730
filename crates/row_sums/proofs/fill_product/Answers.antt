-- `row_sums::fill_product` meets its contract: one row more in each turn. Assumes nothing.
use Rattle.row_sums.proofs.Rows.{rows_more}
use Rattle.row_sums.proofs.fill_product.Goals as goal

pub loop-row-preserved : goal.loop-row-preserved
loop-row-preserved c = rows_more _ _ _ _ _ _ _ c.loop-row.invariant c.fill_row.ensures
