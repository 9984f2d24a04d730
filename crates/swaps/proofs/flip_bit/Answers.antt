-- `swaps::flip_bit` meets its contract: judged with its two numbers, then X swept, or nothing. Assumes nothing.
use Rattle.std.proofs.lemmas.Result.{err_from_is_err_and}
use Rattle.pairs.proofs.Flip as F
use Rattle.swaps.proofs.flip_bit.Goals as goal

pub returns-in_err-free_seat : goal.returns-in_err-free_seat
returns-in_err-free_seat c =
    let p = err_from_is_err_and c.from_residual.result c.from_residual.ensures.1 in
    rw (p.1, p.2) (F.flip_unseated _ _ c.args.noise _ c.in_err-free_seat.ensures)

pub returns-in_err-numbers : goal.returns-in_err-numbers
returns-in_err-numbers c =
    let p = err_from_is_err_and c.from_residual-in_err-numbers.result c.from_residual-in_err-numbers.ensures.1 in
    rw (p.1, p.2) (F.flip_refused _ _ c.args.noise _ c.in_ok-free_seat.ensures c.in_err-numbers.ensures)

pub put_chosen-requires : goal.put_chosen-requires
put_chosen-requires c = rw c.of.ensures (F.flip_seated _ _ c.args.noise _ c.in_ok-free_seat.ensures c.in_ok-numbers.ensures)

pub returns-then-noise : goal.returns-then-noise
returns-then-noise c = F.flip_done _ _ c.args.noise _ c.in_ok-free_seat.ensures c.in_ok-numbers.ensures c.if-noise.true
    (rw c.of.ensures at c.put_chosen.ensures)

pub returns : goal.returns
returns c = F.flip_not _ _ c.args.noise _ c.in_ok-free_seat.ensures c.in_ok-numbers.ensures c.if-noise.false
