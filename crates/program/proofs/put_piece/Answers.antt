-- `program::put_piece` meets its contract: each turn is one step of the stream, and its line is put behind those before it. Assumes nothing.
use Rattle.std.proofs.Common.{arith, rules}
use Rattle.feeding.proofs.Loop.{some_left, none_left, uses, within}
use Rattle.program.proofs.Pieces.{goes, goes_on, gone}
use Rattle.program.proofs.put_piece.Goals as goal

pub loop-rest-init : goal.loop-rest-init
loop-rest-init g c = (omega arith, goes (omega arith) c.next_size-at.ensures)

pub split_at-requires : goal.split_at-requires
split_at-requires g c = within c.take_piece-fed.ensures

pub loop-rest-smaller : goal.loop-rest-smaller
loop-rest-smaller g c =
    let some = some_left c.loop-rest.rest.now c.is_empty.ensures c.loop-rest-test.true in
    omega (arith, uses c.take_piece-fed.ensures some, c.split_at.ensures.back_len)

pub loop-rest-preserved : goal.loop-rest-preserved
loop-rest-preserved g c =
    let (small, going) = c.loop-rest.invariant in
    let placed = c.put_told-placed.ensures in
    (small, goes_on small going c.take_piece-fed.ensures c.split_at.ensures.back (search rules) (record { put = placed.put; index = placed.index }))

pub returns : goal.returns
returns g c = gone c.loop-rest.invariant.1 (none_left c.loop-rest.rest.now c.is_empty.ensures c.loop-rest-test.false)
