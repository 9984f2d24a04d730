-- `runs::by_twos` meets its contract, by the walk of two pairs at a turn. Assumes nothing.
use native.Mathlib.Omega.{arith}
use Rattle.pairs.proofs.Spaced.{walk_ends, two_room_next, two_asks, two_asks_next, two_asks_four, two_steps}
use Rattle.runs.proofs.by_twos.Goals as goal

pub overflow_add-i : goal.overflow_add-i
overflow_add-i g c =
    let near = two_room_next c.requires c.loop-i.invariant c.loop-i-test.true in
    omega (arith, c.requires.small, c.requires.narrow, near)

pub overflow_add-next-in-loop-i : goal.overflow_add-next-in-loop-i
overflow_add-next-in-loop-i g c =
    let near = two_room_next c.requires c.loop-i.invariant c.loop-i-test.true in
    omega (arith, c.requires.small, c.requires.narrow, near)

pub overflow_add-i-in-loop-i : goal.overflow_add-i-in-loop-i
overflow_add-i-in-loop-i g c =
    let near = two_room_next c.requires c.loop-i.invariant c.loop-i-test.true in
    omega (arith, c.requires.small, c.requires.narrow, near)

pub overflow_add-i-in-loop-i-2 : goal.overflow_add-i-in-loop-i-2
overflow_add-i-in-loop-i-2 g c =
    let near = two_room_next c.requires c.loop-i.invariant c.loop-i-test.true in
    omega (arith, c.requires.small, c.requires.narrow, near)

pub read_pair-p-requires : goal.read_pair-p-requires
read_pair-p-requires g c = two_asks c.requires c.loop-i.invariant c.loop-i-test.true

pub read_pair-q-requires : goal.read_pair-q-requires
read_pair-q-requires g c = two_asks_next c.requires c.loop-i.invariant c.loop-i-test.true

pub write_two-requires : goal.write_two-requires
write_two-requires g c = two_asks_four c.requires c.loop-i.invariant c.loop-i-test.true

pub loop-i-preserved : goal.loop-i-preserved
loop-i-preserved g c = two_steps c.requires c.loop-i.invariant c.loop-i-test.true c.read_pair-p.ensures c.read_pair-q.ensures
    c.put-v.ensures c.put-w.ensures c.write_two.ensures

pub returns : goal.returns
returns g c = walk_ends c.requires c.loop-i.invariant c.loop-i-test.false
