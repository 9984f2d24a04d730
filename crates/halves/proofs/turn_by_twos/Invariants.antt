-- `halves::turn_by_twos` meets its contract, by the walk over the keys that have all bits of low, two at a turn. Assumes nothing.
use Prim.Native.Nat.{◌-◌, ◌%◌}
use mathlib.Core.Path.{◌≡◌}
use lib.ListN.{length}
use Rattle.book.specs.Answers.{buffers}
use Rattle.halves.proofs.Picks.{Picked}
use Rattle.halves.proofs.turn_by_twos.Given as goal

abbrev pub invariant-loop-v : goal.invariant-loop-v
invariant-loop-v g l = Picked l.low l.back (g.R.UpperRule.upper l.rule) (buffers l.initial.reals l.initial.imags) l.v (buffers l.reals l.imags) × (l.v % 2 ≡ 0)

abbrev pub decreases-loop-v : goal.decreases-loop-v
decreases-loop-v g l = length l.initial.reals - (l.v - l.back)
