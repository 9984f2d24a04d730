-- `halves::turn_chosen` meets its contract, by the walk over the keys that have all bits of low. Assumes nothing.
use Prim.Native.Nat.{◌-◌}
use lib.ListN.{length}
use Rattle.book.specs.Answers.{buffers}
use Rattle.halves.proofs.Picks.{Picked}
use Rattle.halves.proofs.turn_chosen.Given as goal

abbrev pub invariant-loop-w : goal.invariant-loop-w
invariant-loop-w g l = Picked l.low l.back (g.R.UpperRule.upper l.rule) (buffers l.initial.reals l.initial.imags) l.w (buffers l.reals l.imags)

abbrev pub decreases-loop-w : goal.decreases-loop-w
decreases-loop-w g l = length l.initial.reals - (l.w - l.back)
