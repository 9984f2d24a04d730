-- `row_sums::fill_product` meets its contract: one row more in each turn. Assumes nothing.
use Prim.Native.Nat.{◌*◌}
use Rattle.book.specs.Answers.{buffers}
use Rattle.matrices.specs.Filled.{Filled}
use Rattle.row_sums.specs.Sums.{product_at}
use Rattle.row_sums.proofs.fill_product.Given as goal

abbrev pub invariant-loop-row : goal.invariant-loop-row
invariant-loop-row l =
    Filled 0 (l.row * l.side) (product_at l.side (buffers l.ar l.ai) (buffers l.br l.bi)) (buffers l.initial.reals l.initial.imags) (buffers l.reals l.imags)
