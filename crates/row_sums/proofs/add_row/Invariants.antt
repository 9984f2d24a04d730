-- `row_sums::add_row` meets its contract: one place more is filled in each turn, from what stood there at entry. Assumes nothing.
use Rattle.book.specs.Answers.{buffers}
use Rattle.book.specs.State.{amplitude}
use Rattle.matrices.specs.Filled.{Filled}
use Rattle.row_sums.specs.Sums.{row_sum}
use Rattle.row_sums.proofs.add_row.Given as goal

abbrev pub invariant-loop-j : goal.invariant-loop-j
invariant-loop-j l =
    Filled l.from l.j (row_sum (buffers l.initial.reals l.initial.imags) l.from (amplitude l.re l.im) (buffers l.br l.bi) l.start)
    (buffers l.initial.reals l.initial.imags) (buffers l.reals l.imags)
