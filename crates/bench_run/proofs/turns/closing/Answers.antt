-- The buffer has room for all that stands behind the last delivery.
use Rattle.std.proofs.Common.{rules}
use Rattle.book.specs.Answers.{buffers}
use Rattle.feeding.specs.Feeding.{rest_in, cuts}
use Rattle.program.proofs.Fits.{closing_stands}
use Rattle.program.specs.Program.{run_of}
use Rattle.bench_run.proofs.turns.closing.Goals as goal

pub returns-clause-closes : goal.returns-clause-closes
returns-clause-closes c =
    let f = (run_of c.args.end).form in
    (closing_stands (cuts (rest_in f)) f.session (buffers c.args.reals.now c.args.imags.now) c.put_end.ensures c.requires (search rules)).are
