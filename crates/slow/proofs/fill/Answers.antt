-- `slow::fill` meets its contract: one place more in each turn. Assumes nothing.
use Prim.Native.Nat.{◌^◌, ◌<◌}
use native.Mathlib.Omega.{arith}
use Rattle.matrices.proofs.Fills.{same_size}
use Rattle.slow.proofs.Reach.{size, filled_more}
use Rattle.slow.proofs.fill.Goals as goal

pub place-requires : goal.place-requires
place-requires g c = c.requires.each c.loop-i.i (rw (size c.requires.outputs) at c.loop-i-test.true)

pub write_at-requires : goal.write_at-requires
write_at-requires g c =
    let o = c.requires.outputs in
    let inside : c.loop-i.i < 2 ^ c.args.n = rw (size o) at c.loop-i-test.true in
    record { reals = omega (arith, o.reals); imags = omega (arith, o.imags) }

pub loop-i-preserved : goal.loop-i-preserved
loop-i-preserved g c = record {
  size = same_size c.loop-i.invariant.size c.write_at.ensures.size;
  places = filled_more (goal.F-post g c.args.place) c.loop-i.i c.loop-i.invariant.places c.place.ensures c.write_at.ensures;
}

pub returns-clause-places : goal.returns-clause-places
returns-clause-places g c = λ i l. c.loop-i.invariant.places i (omega (arith, size c.requires.outputs, c.loop-i-test.false))
