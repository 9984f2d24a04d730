-- `whole_run::print_all` meets its contract, by what the header is. Assumes nothing.
use Rattle.whole_run.proofs.Whole.{printed_good, printed_bad}
use Rattle.whole_run.proofs.print_all.Goals as goal

pub returns-in-Some : goal.returns-in-Some
returns-in-Some g c = printed_good c.args.input.now c.read_header.ensures c.in-Some.is c.behind_header.ensures c.put_run.ensures

pub returns-in-None : goal.returns-in-None
returns-in-None g c = printed_bad c.args.input.now c.read_header.ensures c.in-None.is c.put_bad_header.ensures
