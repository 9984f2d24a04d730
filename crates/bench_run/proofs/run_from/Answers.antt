-- What stands behind a good header is the run's; behind a bad one, or where the input ends or fails before, there is the one line.
use Rattle.std.proofs.Common.{rules}
use Rattle.bench_run.proofs.Going.{answers_good, answers_bad}
use Rattle.bench_run.proofs.run_from.Goals as goal

pub returns-in-Some : goal.returns-in-Some
returns-in-Some g c =
    answers_good c.read_full.result _ _ _ _ _ _ _ _ c.unwrap_or-got.ensures (search rules) c.read_header.ensures c.in-Some.is c.read_full.ensures.bytes
    c.run_bench.ensures

pub returns-in-None : goal.returns-in-None
returns-in-None g c =
    answers_bad c.read_full.result _ _ _ _ _ _ _ c.unwrap_or-got.ensures (search rules) c.read_header.ensures c.in-None.is c.read_full.ensures.bytes
    c.read_full.ensures.err c.bad_header.ensures
