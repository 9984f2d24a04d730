-- `products::apply_unitary` meets its contract: its two tests in order, and then the loops. Assumes nothing.
use Rattle.std.proofs.lemmas.Result.{err_from_is_err_and}
use Rattle.products.proofs.Products.{line, product_size, product_length, ready, state_filled}
use Rattle.products.proofs.apply_unitary.Goals as goal

pub returns-in_err-side : goal.returns-in_err-side
returns-in_err-side c =
    let p = err_from_is_err_and c.from_residual.result c.from_residual.ensures.1 in
    rw (p.1, p.2) (product_size line _ _ _ _ _ c.in_err-side.ensures)

pub returns-in_err-lengths : goal.returns-in_err-lengths
returns-in_err-lengths c =
    let p = err_from_is_err_and c.from_residual-in_err-lengths.result c.from_residual-in_err-lengths.ensures.1 in
    rw (p.1, p.2) (product_length line _ _ _ _ _ c.in_ok-side.ensures c.in_err-lengths.ensures)

pub fill_state-requires : goal.fill_state-requires
fill_state-requires c = ready line _ _ _ _ c.in_ok-side.ensures c.in_ok-lengths.ensures

pub returns : goal.returns
returns c = state_filled _ _ _ _ c.in_ok-side.ensures c.in_ok-lengths.ensures c.fill_state.ensures
