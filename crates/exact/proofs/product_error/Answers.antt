-- `exact::product_error` meets its contract: each of its steps is exact. Assumes nothing.
use Rattle.exact.proofs.ProductError.{product_error}
use Rattle.exact.proofs.product_error.Goals as goal

pub returns : goal.returns
returns c = product_error c.upper-xh.ensures c.requires.1
