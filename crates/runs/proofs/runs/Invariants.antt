-- `runs::runs` meets its contract, by the law of the runs. Assumes nothing.
use Prim.Native.Nat.{◌-◌}
use Rattle.book.specs.Answers.{buffers}
use Rattle.pairs.proofs.Turns.{Turns}
use Rattle.runs.proofs.runs.Given as goal

abbrev pub invariant-loop-u : goal.invariant-loop-u
invariant-loop-u g l =
    Turns (g.R.Rule.rule l.rule) l.n l.wide l.run l.stride l.back0 l.back1 (buffers l.initial.reals l.initial.imags) l.u (buffers l.reals l.imags)

abbrev pub decreases-loop-u : goal.decreases-loop-u
decreases-loop-u g l = l.size - l.u
