-- `runs::along` meets its contract, by the walk of one pair at a turn. Assumes nothing.
use Rattle.pairs.proofs.Spaced.{walk_ends, one_steps}
use Rattle.runs.proofs.along.Goals as goal

pub loop-i-preserved : goal.loop-i-preserved
loop-i-preserved g c = one_steps c.requires c.loop-i.invariant c.loop-i-test.true c.step.ensures

pub returns : goal.returns
returns g c = walk_ends c.requires c.loop-i.invariant c.loop-i-test.false
