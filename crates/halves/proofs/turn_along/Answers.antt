-- `halves::turn_along` meets its contract, by the walk along a part. Assumes nothing.
use Rattle.pairs.proofs.Halves.{walk_steps}
use Rattle.halves.proofs.turn_along.Goals as goal

pub loop-j-preserved : goal.loop-j-preserved
loop-j-preserved g c = walk_steps _ _ c.requires _ _ _ _ c.loop-j.invariant (rw c.loop-j.auto.reals c.loop-j-test.true) c.put_upper-turned.ensures
