-- `halves::turn_chosen` meets its contract, by the walk over the keys that have all bits of low. Assumes nothing.
use Prim.Native.Nat.{◌+◌}
use native.Mathlib.Omega.{arith}
use Rattle.pairs.proofs.Bits.{or_ge}
use Rattle.halves.proofs.Picks.{picks_reach, picks_step}
use Rattle.halves.proofs.turn_chosen.Goals as goal

pub loop-w-smaller : goal.loop-w-smaller
loop-w-smaller g c = let inv = c.loop-w.invariant in
    omega (
      arith,
      c.loop-w-test.true,
      inv.walked.same.reals,
      picks_reach _ c.requires inv,
      or_ge (c.loop-w.w + 1) c.args.low,
    )

pub loop-w-preserved : goal.loop-w-preserved
loop-w-preserved g c = picks_step _ c.requires _ _ _ _ c.loop-w.invariant c.loop-w-test.true c.put_upper-turned.ensures
