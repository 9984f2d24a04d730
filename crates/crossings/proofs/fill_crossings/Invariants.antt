-- `crossings::fill_crossings` meets its contract: one place more in each turn. Assumes nothing.
use Prim.Native.Nat.{◌/◌, ◌%◌}
use Rattle.book.specs.Answers.{buffers}
use Rattle.book.specs.Matrices.{crossing}
use Rattle.matrices.specs.Filled.{Filled}
use Rattle.crossings.proofs.fill_crossings.Given as goal

abbrev pub invariant-loop-place : goal.invariant-loop-place
invariant-loop-place l =
    Filled 0 l.place (λ k. crossing l.matrix l.target (k / l.side) (k % l.side)) (buffers l.initial.reals l.initial.imags) (buffers l.reals l.imags)
