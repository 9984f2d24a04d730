-- `row_sums::add_row` meets its contract: one place more is filled in each turn, from what stood there at entry. Assumes nothing.
use Rattle.row_sums.proofs.Rows.{sum_more}
use Rattle.row_sums.proofs.add_row.Goals as goal

pub loop-j-preserved : goal.loop-j-preserved
loop-j-preserved c =
    sum_more _ _ _ _ _ _ _ _ c.loop-j.invariant c.read_at-sum.ensures c.read_at-b.ensures c.add_product-next.ensures c.write_at.ensures
