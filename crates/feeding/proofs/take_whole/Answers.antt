-- `feeding::take_whole` meets its contract: each turn is one step of the stream, whose answer is stored behind those before it. Assumes nothing.
use native.Mathlib.Omega.{arith}
use mathlib.Core.List.{[], ◌++◌}
use borrow.Author.Rules.{rules}
use Rattle.feeding.proofs.Loop.{some_left, none_left, begins, uses, within, turn, ends}
use Rattle.feeding.proofs.Numbers.{filled_none, filled_then}
use Rattle.feeding.proofs.take_whole.Goals as goal

pub loop-rest-init : goal.loop-rest-init
loop-rest-init g c = ([], begins _ _ _, filled_none _ _ c.requires)

pub split_at-requires : goal.split_at-requires
split_at-requires g c = within c.take_piece-fed.ensures

pub loop-rest-smaller : goal.loop-rest-smaller
loop-rest-smaller g c =
    let some = some_left c.loop-rest.rest.now c.is_empty.ensures c.loop-rest-test.true in
    omega (arith, uses c.take_piece-fed.ensures some, c.split_at.ensures.back_len)

pub loop-rest-preserved : goal.loop-rest-preserved
loop-rest-preserved g c =
    let loop = c.loop-rest in
    (loop.invariant.0 ++ _, turn loop.invariant.1 c.take_piece-fed.ensures c.split_at.ensures.back (search rules), filled_then loop.invariant.2 c.fill-filled.ensures)

pub returns : goal.returns
returns g c = let inv = c.loop-rest.invariant in record { answers = inv.0; takes = ends inv.1 (none_left c.loop-rest.rest.now c.is_empty.ensures c.loop-rest-test.false); filled = inv.2 }
