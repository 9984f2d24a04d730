-- `probabilities::sum_half` meets its contract: the half's stretch of one block more in each turn. Assumes nothing.
use Rattle.book.specs.Answers.{buffers}
use Rattle.probabilities.proofs.Sums.{Summing}
use Rattle.probabilities.proofs.sum_half.Given as goal

abbrev pub invariant-loop-base : goal.invariant-loop-base
invariant-loop-base l = Summing l.n l.target l.outcome (buffers l.reals l.imags) l.base l.sum
