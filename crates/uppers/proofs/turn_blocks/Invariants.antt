-- `uppers::turn_blocks` meets its contract, by the law of the blocks. Assumes nothing.
use Prim.Native.Nat.{◌-◌}
use Rattle.book.specs.Answers.{buffers}
use Rattle.uppers.proofs.Skips.{Among}
use Rattle.uppers.proofs.turn_blocks.Given as goal

abbrev pub invariant-loop-key : goal.invariant-loop-key
invariant-loop-key g l = Among l.fixed l.back (g.R.UpperRule.upper l.rule) l.n l.target l.bit (buffers l.initial.reals l.initial.imags) l.key (buffers l.reals l.imags)

abbrev pub decreases-loop-key : goal.decreases-loop-key
decreases-loop-key g l = l.size - (l.key - l.over)
