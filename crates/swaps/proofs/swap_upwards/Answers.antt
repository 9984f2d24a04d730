-- `swaps::swap_upwards` meets its contract: the higher qubit is judged for both. Assumes nothing.
use native.Mathlib.Omega.{arith}
use Rattle.std.proofs.lemmas.Result.{err_from_is_err_and}
use Rattle.pairs.proofs.Swap as S
use Rattle.swaps.proofs.swap_upwards.Goals as goal

pub returns-in_err-free_seat : goal.returns-in_err-free_seat
returns-in_err-free_seat c =
    let p = err_from_is_err_and c.from_residual.result c.from_residual.ensures.1 in
    rw (p.1, p.2) (S.swap_kept _ _ _ _ c.requires c.in_err-free_seat.ensures)

pub returns-then-low-high : goal.returns-then-low-high
returns-then-low-high c = S.swap_itself _ _ _ _ c.requires c.in_ok-free_seat.ensures c.if-low-high.true

pub exchange-requires : goal.exchange-requires
exchange-requires c = (omega (arith, c.requires, c.if-low-high.false), S.swap_seated _ _ _ _ c.requires c.in_ok-free_seat.ensures)

pub returns : goal.returns
returns c = S.swap_done _ _ _ _ c.requires c.in_ok-free_seat.ensures c.exchange.ensures
