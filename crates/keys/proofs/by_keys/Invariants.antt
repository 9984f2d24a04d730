-- `keys::by_keys` meets its contract, by the law of the loop over the keys. Assumes nothing.
use Prim.Native.Nat.{◌-◌}
use Rattle.book.specs.Answers.{buffers}
use Rattle.pairs.proofs.Keys.{Upto}
use Rattle.keys.proofs.by_keys.Given as goal

abbrev pub invariant-loop-w : goal.invariant-loop-w
invariant-loop-w g l =
    Upto (g.R.Rule.rule l.rule) l.n l.fixed l.back0 l.back1 (buffers l.initial.reals l.initial.imags) l.w (buffers l.reals l.imags)

abbrev pub decreases-loop-w : goal.decreases-loop-w
decreases-loop-w g l = l.size - l.w
