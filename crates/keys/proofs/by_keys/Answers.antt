-- `keys::by_keys` meets its contract, by the law of the loop over the keys. Assumes nothing.
use Prim.Native.Nat.{◌+◌, ◌^◌, ◌<◌}
use native.Mathlib.Omega.{arith}
use Rattle.pairs.proofs.Bits.{or_ge}
use Rattle.pairs.proofs.Keys.{size_is, steps, ends}
use Rattle.keys.proofs.by_keys.Goals as goal

pub loop-w-smaller : goal.loop-w-smaller
loop-w-smaller g c = omega (arith, c.loop-w-test.true, or_ge (c.loop-w.w + 1) c.args.fixed)

pub loop-w-preserved : goal.loop-w-preserved
loop-w-preserved g c =
    let key_lt : (c.loop-w.w < 2 ^ c.args.n) = omega (arith, c.loop-w-test.true, size_is c.requires) in
    steps c.requires c.loop-w.invariant key_lt c.step.ensures

pub returns : goal.returns
returns g c = ends c.requires c.loop-w.invariant (omega (arith, c.loop-w-test.false, size_is c.requires))
