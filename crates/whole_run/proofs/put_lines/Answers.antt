-- `whole_run::put_lines` meets its contract: the frames' lines, and what stands behind them. Assumes nothing.
use Rattle.whole_run.proofs.Whole.{closed}
use Rattle.whole_run.proofs.put_lines.Goals as goal

pub returns : goal.returns
returns g c = closed c.put_pieces-printed.ensures c.put_end.ensures
