-- `row_sums::fill_row` meets its contract: the row is filled again in each turn, with one inner index more. Assumes nothing.
use Rattle.row_sums.proofs.Rows.{row_none, row_more}
use Rattle.row_sums.proofs.fill_row.Goals as goal

pub loop-inner-init : goal.loop-inner-init
loop-inner-init c = row_none _ _ _ _ _ _ c.clear_row.ensures

pub loop-inner-preserved : goal.loop-inner-preserved
loop-inner-preserved c = row_more _ _ _ _ _ _ _ _ _ c.loop-inner.invariant c.read_at-a.ensures c.add_row.ensures
