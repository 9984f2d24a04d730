-- `seats::seat` meets its contract: each return cites the refusal that its test gives, and that those before it were passed. Each search is found within
-- 50 fits; at the usual 1000 one that fails, as in an edit, takes a second longer. Assumes nothing.
use Rattle.seats.proofs.Refusals.{seats}
use Rattle.seats.proofs.seat.Goals as goal

pub returns-then-out : goal.returns-then-out
returns-then-out c = search seats depth 1 fits 200

pub returns-then-long : goal.returns-then-long
returns-then-long c = search seats depth 1 fits 200

pub returns-then-far : goal.returns-then-far
returns-then-far c = search seats depth 1 fits 200

pub returns-then-same-eq1 : goal.returns-then-same-eq1
returns-then-same-eq1 c = search seats depth 1 fits 200

pub returns-then-most-many : goal.returns-then-most-many
returns-then-most-many c = search seats depth 1 fits 200

pub returns : goal.returns
returns c = search seats depth 1 fits 200
