-- `crossings::fill_crossings` meets its contract: one place more in each turn. Assumes nothing.
use native.Mathlib.Omega.{arith}
use Rattle.matrices.proofs.Fills.{held_next, one_more}
use Rattle.crossings.proofs.fill_crossings.Goals as goal

pub write_at-requires : goal.write_at-requires
write_at-requires c = held_next c.loop-place-test.true c.loop-place.invariant c.requires.3

pub loop-place-preserved : goal.loop-place-preserved
loop-place-preserved c = one_more (omega arith) c.loop-place.invariant c.write_at.ensures c.crossing_at-z.ensures
