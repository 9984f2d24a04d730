-- `matrices::lengths` meets its contract: one pair of buffers after the other. Assumes nothing.
use Rattle.std.proofs.lemmas.Result.{err_from_is_err_and}
use Rattle.matrices.proofs.Judged.{first_long, then_next}
use Rattle.matrices.proofs.lengths.Goals as goal

pub returns-in_err-length : goal.returns-in_err-length
returns-in_err-length c =
    let p = err_from_is_err_and c.from_residual.result c.from_residual.ensures.1 in
    rw (p.1, p.2) (first_long _ _ (first_long _ _ c.in_err-length.ensures))

pub returns-in_err-length-2 : goal.returns-in_err-length-2
returns-in_err-length-2 c =
    let p = err_from_is_err_and c.from_residual-in_err-length-2.result c.from_residual-in_err-length-2.ensures.1 in
    rw (p.1, p.2) (first_long _ _ (then_next _ _ c.in_ok-length.ensures c.in_err-length-2.ensures))

pub returns : goal.returns
returns c = then_next _ _ (then_next _ _ c.in_ok-length.ensures c.in_ok-length-2.ensures) c.length-3.ensures
