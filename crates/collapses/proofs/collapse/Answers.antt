-- `collapses::collapse` meets its contract: both halves of one block more in each turn. Assumes nothing.
use native.Mathlib.Omega.{arith}
use Rattle.collapses.proofs.Stretches.{at_end, lower, upper, next_block}
use Rattle.collapses.proofs.collapse.Goals as goal

pub collapse_half-requires : goal.collapse_half-requires
collapse_half-requires c = lower c.requires c.loop-base.invariant c.loop-base-test.true

pub collapse_half-requires-in-loop-base : goal.collapse_half-requires-in-loop-base
collapse_half-requires-in-loop-base c = upper c.requires c.loop-base.invariant c.loop-base-test.true c.collapse_half.ensures

pub loop-base-preserved : goal.loop-base-preserved
loop-base-preserved c =
    next_block c.requires c.loop-base.invariant c.loop-base-test.true c.collapse_half.ensures c.collapse_half-in-loop-base.ensures

pub returns : goal.returns
returns c = at_end c.requires c.loop-base.invariant c.loop-base-test.false

pub returns-2 : goal.returns-2
returns-2 c =
    at_end c.requires
    (next_block c.requires c.loop-base.invariant c.loop-base-test.true c.collapse_half.ensures c.collapse_half-in-loop-base.ensures) (omega arith)
