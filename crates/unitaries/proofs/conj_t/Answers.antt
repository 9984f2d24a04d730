-- `unitaries::conj_t` meets its contract: its two tests in order, and then the loop. Assumes nothing.
use Rattle.std.proofs.lemmas.Result.{err_from_is_err_and}
use Rattle.unitaries.proofs.Judged.{transpose_size, transpose_length, transpose_ready, turned_filled}
use Rattle.unitaries.proofs.conj_t.Goals as goal

pub returns-in_err-side : goal.returns-in_err-side
returns-in_err-side c =
    let p = err_from_is_err_and c.from_residual.result c.from_residual.ensures.1 in
    rw (p.1, p.2) (transpose_size _ _ c.in_err-side.ensures)

pub returns-in_err-length : goal.returns-in_err-length
returns-in_err-length c =
    let p = err_from_is_err_and c.from_residual-in_err-length.result c.from_residual-in_err-length.ensures.1 in
    rw (p.1, p.2) (transpose_length _ _ c.in_ok-side.ensures c.in_err-length.ensures)

pub turn_all-requires : goal.turn_all-requires
turn_all-requires c = transpose_ready _ _ c.in_ok-side.ensures c.in_ok-length.ensures

pub returns : goal.returns
returns c = turned_filled _ _ c.in_ok-side.ensures c.in_ok-length.ensures c.turn_all.ensures
