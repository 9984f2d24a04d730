-- `summands::clear_row` meets its contract: both stretches are filled with 0.0. Assumes nothing.
use Rattle.summands.proofs.Rows.{row_cleared}
use Rattle.summands.proofs.clear_row.Goals as goal

pub returns : goal.returns
returns c = row_cleared _ _ _ _ c.requires (c.fill.ensures.after (λ y e. e)) (c.fill-2.ensures.after (λ y e. e))
