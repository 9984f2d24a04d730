-- `measurement::measure_qubit` meets its contract: the tests in order, then the collapse and the reset. Assumes nothing.
use Rattle.std.proofs.lemmas.Result.{err_from_is_err_and}
use Rattle.measurement.proofs.Measured.{measure_kept, seat, measure_refused, measure_done, seat_still}
use Rattle.measurement.proofs.measure_qubit.Goals as goal

pub chance-p-requires : goal.chance-p-requires
chance-p-requires c = seat _ _ c.args.forced _ c.in_ok-free_seat.ensures

pub collapse-requires : goal.collapse-requires
collapse-requires c = seat _ _ c.args.forced _ c.in_ok-free_seat.ensures

pub set_back-requires : goal.set_back-requires
set_back-requires c = seat_still _ (seat _ _ c.args.forced _ c.in_ok-free_seat.ensures) c.collapse.ensures

pub returns : goal.returns
returns c = measure_done _ _ c.args.forced _ c.in_ok-free_seat.ensures _ c.chance-p.ensures c.in_ok-own.ensures c.one_over_root.ensures
    c.collapse.ensures c.set_back.ensures

pub returns-in_err-own : goal.returns-in_err-own
returns-in_err-own c =
    let p = err_from_is_err_and c.from_residual-in_err-own.result c.from_residual-in_err-own.ensures.1 in
    rw (p.1, p.2) (measure_refused _ _ c.args.forced _ c.in_ok-free_seat.ensures _ c.chance-p.ensures c.in_err-own.ensures)

pub returns-in_err-free_seat : goal.returns-in_err-free_seat
returns-in_err-free_seat c =
    let p = err_from_is_err_and c.from_residual.result c.from_residual.ensures.1 in
    rw (p.1, p.2) (measure_kept _ _ c.args.forced _ c.in_err-free_seat.ensures)
