-- `probabilities::add_squares` meets its contract: one square more in each turn. Assumes nothing.
use mathlib.Core.Path.{◌≡◌}
use lib.ListN.{length}
use Rattle.book.specs.Answers.{buffers}
use Rattle.book.specs.State.{at}
use Rattle.probabilities.specs.Stretches.{added}
use Rattle.probabilities.proofs.add_squares.Given as goal

abbrev pub invariant-loop-x : goal.invariant-loop-x
invariant-loop-x l = l.sum ≡ added (at (buffers l.reals l.imags)) l.from l.start (length l.yielded)
