-- `halves::turn_along` meets its contract, by the walk along a part. Assumes nothing.
use Rattle.book.specs.Answers.{buffers}
use Rattle.pairs.proofs.Halves.{Walked}
use Rattle.halves.proofs.turn_along.Given as goal

abbrev pub invariant-loop-j : goal.invariant-loop-j
invariant-loop-j g l = Walked (λ _. g.R.UpperRule.upper l.rule) (buffers l.initial.reals l.initial.imags) l.j (buffers l.reals l.imags)
