-- What the turns so far wrote are the lines of what was read.
use Rattle.std.proofs.Common.{◌≡◌, length}
use Rattle.book.specs.Answers.{buffers}
use Rattle.program.specs.Program.{run_of}
use Rattle.bench_run.specs.Turns.{Goes}
use Rattle.bench_run.proofs.take_input.Given as goal

abbrev pub invariant-loop-turn : goal.invariant-loop-turn
invariant-loop-turn g l = (length l.reals ≡ length l.initial.reals) × (length l.imags ≡ length l.initial.imags)
    × Goes (g.R.Read.remaining l.initial.input) (g.R.Read.remaining l.input) (g.W.Write.contents l.initial.output) (g.W.Write.contents l.output)
    (run_of l.initial.end) (buffers l.initial.reals l.initial.imags) (run_of l.end) (buffers l.reals l.imags)
