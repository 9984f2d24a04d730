-- `chances::own` meets its contract: each return cites the refusal that its test gives, and that the one before it was passed. Assumes nothing.
use Rattle.chances.proofs.Tests as O
use Rattle.chances.proofs.own.Goals as goal

pub returns-then-neither : goal.returns-then-neither
returns-then-neither c = search O.own depth 1

pub returns-then-unlikely : goal.returns-then-unlikely
returns-then-unlikely c = search O.own depth 1

pub returns : goal.returns
returns c = search O.own depth 1
