-- `runs::runs` meets its contract, by the law of the runs. Assumes nothing.
use Prim.Native.Nat.{◌+◌}
use native.Mathlib.Omega.{arith}
use Rattle.pairs.proofs.Bits.{or_ge}
use Rattle.pairs.proofs.Turns.{numbers, turns_start, turns_ask, turns_step, turns_end}
use Rattle.runs.proofs.runs.Goals as goal
use Rattle.runs.proofs.runs.Goals.{then-this-ne0, else-this-ne0}

pub loop-u-init : goal.loop-u-init
loop-u-init g c = turns_start c.requires

pub overflow_sub-e : goal.overflow_sub-e
overflow_sub-e g c = let turn = numbers c.requires c.loop-u.invariant c.loop-u-test.true in omega arith

pub slice_bounds-re-count : goal.slice_bounds-re-count
slice_bounds-re-count g c = let turn = numbers c.requires c.loop-u.invariant c.loop-u-test.true in omega arith

pub slice_bounds-re-start : goal.slice_bounds-re-start
slice_bounds-re-start g c = let turn = numbers c.requires c.loop-u.invariant c.loop-u-test.true in omega arith

pub slice_bounds-re-end : goal.slice_bounds-re-end
slice_bounds-re-end g c = let turn = numbers c.requires c.loop-u.invariant c.loop-u-test.true in omega arith

pub slice_bounds-im-count : goal.slice_bounds-im-count
slice_bounds-im-count g c = let turn = numbers c.requires c.loop-u.invariant c.loop-u-test.true in omega arith

pub slice_bounds-im-start : goal.slice_bounds-im-start
slice_bounds-im-start g c = let turn = numbers c.requires c.loop-u.invariant c.loop-u-test.true in omega arith

pub slice_bounds-im-end : goal.slice_bounds-im-end
slice_bounds-im-end g c = let turn = numbers c.requires c.loop-u.invariant c.loop-u-test.true in omega arith

pub by_twos-requires : goal.by_twos-requires
by_twos-requires g c = turns_ask c.requires c.loop-u.invariant c.loop-u-test.true

pub along-requires : goal.along-requires
along-requires g c = turns_ask c.requires c.loop-u.invariant c.loop-u-test.true

pub loop-u-smaller : goal.loop-u-smaller
loop-u-smaller g c =
    let turn = numbers c.requires c.loop-u.invariant c.loop-u-test.true in
    omega (arith, c.loop-u-test.true, turn.low, turn.some, or_ge (c.loop-u.u + c.args.cut.run) c.args.cut.wide)

pub loop-u-preserved : goal.loop-u-preserved
loop-u-preserved g c = elim c.if-this-ne0.branch [
  | then-this-ne0 w ↦ rw (w.reals-is, w.imags-is) (turns_step c.requires c.loop-u.invariant c.loop-u-test.true _ w.by_twos.ensures)
  | else-this-ne0 w ↦ rw (w.reals-is, w.imags-is) (turns_step c.requires c.loop-u.invariant c.loop-u-test.true _ w.along.ensures)
]

pub returns : goal.returns
returns g c = turns_end c.requires c.loop-u.invariant c.loop-u-test.false
