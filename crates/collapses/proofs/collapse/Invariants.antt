-- `collapses::collapse` meets its contract: both halves of one block more in each turn. Assumes nothing.
use Rattle.book.specs.Answers.{buffers}
use Rattle.collapses.proofs.Stretches.{Collapsing}
use Rattle.collapses.proofs.collapse.Given as goal

abbrev pub invariant-loop-base : goal.invariant-loop-base
invariant-loop-base l = Collapsing l.n l.target l.outcome l.r (buffers l.initial.reals l.initial.imags) l.base (buffers l.reals l.imags)
