-- `row_sums::fill_row` meets its contract: the row is filled again in each turn, with one inner index more. Assumes nothing.
use Rattle.book.specs.Answers.{buffers}
use Rattle.matrices.specs.Filled.{Filled}
use Rattle.row_sums.specs.Sums.{row_dot}
use Rattle.row_sums.proofs.fill_row.Given as goal

abbrev pub invariant-loop-inner : goal.invariant-loop-inner
invariant-loop-inner l =
    Filled l.from l.side (row_dot l.side l.from (buffers l.ar l.ai) (buffers l.br l.bi) l.inner) (buffers l.initial.reals l.initial.imags)
    (buffers l.reals l.imags)
