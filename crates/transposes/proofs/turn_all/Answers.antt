-- `transposes::turn_all` meets its contract: one place more in each turn. Assumes nothing.
use Rattle.transposes.proofs.Mirrors.{turned_more}
use Rattle.transposes.proofs.turn_all.Goals as goal

pub loop-place-preserved : goal.loop-place-preserved
loop-place-preserved c = turned_more _ _ c.loop-place-test.true _ _ _ c.loop-place.invariant c.turn_at.ensures
