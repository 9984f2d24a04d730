-- `collapses::scale_part` meets its contract: one place more in each turn. Assumes nothing.
use Rattle.book.specs.Answers.{buffers}
use Rattle.collapses.specs.Halves.{scaled, Remade}
use Rattle.collapses.proofs.scale_part.Given as goal

abbrev pub invariant-loop-i : goal.invariant-loop-i
invariant-loop-i l = Remade (λ k. scaled l.r) l.from l.i (buffers l.initial.reals l.initial.imags) (buffers l.reals l.imags)
