-- `judging::sized::size` meets its contract: each return cites the refusal that its test gives. Assumes nothing.
use Rattle.judging.proofs.Refusals.{sizes}
use Rattle.judging.proofs.sized.size.Goals as goal

pub returns-then-bad_size : goal.returns-then-bad_size
returns-then-bad_size c = search sizes depth 1

pub returns-then-bad_length : goal.returns-then-bad_length
returns-then-bad_length c = search sizes depth 1

pub returns : goal.returns
returns c = search sizes depth 1
