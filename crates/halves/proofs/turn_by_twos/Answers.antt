-- `halves::turn_by_twos` meets its contract, by the walk over the keys that have all bits of low, two at a turn. Assumes nothing.
use Prim.Native.Nat.{◌+◌, ◌-◌, ◌<◌}
use mathlib.Core.Path.{ap}
use native.Mathlib.Omega.{arith}
use lib.ListN.{length}
use Rattle.book.specs.declared.Pair.{Pair}
use Rattle.pairs.proofs.Bits.{or_ge}
use Rattle.halves.proofs.Picks.{picks_reach, picks_two_steps, next_even}
use Rattle.halves.proofs.turn_by_twos.Goals as goal

pub loop-v-smaller : goal.loop-v-smaller
loop-v-smaller g c =
    let inv = c.loop-v.invariant in
    omega (
      arith,
      c.loop-v-test.true,
      inv.0.walked.same.reals,
      picks_reach _ c.requires.0 inv.0,
      or_ge (c.loop-v.v + 2) c.args.low,
    )

pub loop-v-preserved : goal.loop-v-preserved
loop-v-preserved g c =
    let inv = c.loop-v.invariant in
    let pre = c.requires in
    let put = c.put_uppers-turned.ensures in
    let second : c.loop-v.v - c.args.back + 1 < length c.loop-v.reals =
    omega (arith, c.loop-v-test.true, inv.1, picks_reach _ pre.0 inv.0, inv.0.walked.same.reals, pre.1.taken, pre.1.places) in (
      picks_two_steps _ pre.0 _ _ _ _ _ _ inv.0 inv.1 second (ap (λ (p : Pair). p.s0) put) (ap (λ (p : Pair). p.s1) put),
      next_even c.args.low (c.loop-v.v + 2) pre.1.keys (omega (arith, inv.1)),
    )
