-- `transposes::turn_all` meets its contract: one place more in each turn. Assumes nothing.
use Rattle.book.specs.Answers.{buffers}
use Rattle.transposes.specs.Mirrored.{Turned}
use Rattle.transposes.proofs.turn_all.Given as goal

abbrev pub invariant-loop-place : goal.invariant-loop-place
invariant-loop-place l = Turned l.side l.place (buffers l.initial.reals l.initial.imags) (buffers l.reals l.imags)
