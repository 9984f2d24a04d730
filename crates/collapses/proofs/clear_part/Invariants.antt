-- `collapses::clear_part` meets its contract: one place more in each turn. Assumes nothing.
use Rattle.book.specs.Answers.{buffers}
use Rattle.collapses.specs.Halves.{cleared, Remade}
use Rattle.collapses.proofs.clear_part.Given as goal

abbrev pub invariant-loop-i : goal.invariant-loop-i
invariant-loop-i l = Remade (λ k. cleared) l.from l.i (buffers l.initial.reals l.initial.imags) (buffers l.reals l.imags)
