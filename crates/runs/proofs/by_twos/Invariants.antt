-- `runs::by_twos` meets its contract, by the walk of two pairs at a turn. Assumes nothing.
use Prim.Native.Nat.{◌-◌, ◌*◌}
use Rattle.book.specs.Answers.{buffers}
use Rattle.pairs.proofs.Spaced.{Walk}
use Rattle.runs.proofs.by_twos.Given as goal

abbrev pub invariant-loop-i : goal.invariant-loop-i
invariant-loop-i g l = Walk (g.R.Rule.rule l.rule) l.run l.d l.stride (l.stride * 2) (buffers l.initial.reals l.initial.imags) l.i (buffers l.reals l.imags)

abbrev pub decreases-loop-i : goal.decreases-loop-i
decreases-loop-i g l = l.run - l.i
