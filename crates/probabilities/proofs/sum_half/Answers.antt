-- `probabilities::sum_half` meets its contract: the half's stretch of one block more in each turn. Assumes nothing.
use native.Mathlib.Omega.{arith}
use Rattle.probabilities.proofs.Sums.{sums_start, at_end, stretch, next_block}
use Rattle.probabilities.proofs.sum_half.Goals as goal

pub loop-base-init : goal.loop-base-init
loop-base-init c = sums_start c.requires.0

pub add_squares-sum-requires : goal.add_squares-sum-requires
add_squares-sum-requires c = stretch c.requires.0 c.requires.1 c.loop-base.invariant c.loop-base-test.true

pub loop-base-preserved : goal.loop-base-preserved
loop-base-preserved c = next_block c.requires.0 c.requires.1 c.loop-base.invariant c.loop-base-test.true c.add_squares-sum.ensures

pub returns : goal.returns
returns c = at_end c.requires.0 c.loop-base.invariant c.loop-base-test.false

pub returns-2 : goal.returns-2
returns-2 c =
    at_end c.requires.0 (next_block c.requires.0 c.requires.1 c.loop-base.invariant c.loop-base-test.true c.add_squares-sum.ensures) (omega arith)
