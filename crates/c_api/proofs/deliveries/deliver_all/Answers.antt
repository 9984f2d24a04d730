-- `c_api::deliveries::deliver_all` meets its contract: the words that each call leaves are the book's session, so each turn is one delivery of the book's.
-- Assumes nothing.
use Rattle.std.proofs.Common.{arith, rules}
use Rattle.once.proofs.Loop.{turn, ends}
use Rattle.c_api.proofs.deliveries.deliver_all.Goals as goal

pub loop-asked-preserved : goal.loop-asked-preserved
loop-asked-preserved c =
    turn c.loop-asked.invariant (omega arith) c.next_size.ensures c.split_at.ensures.front c.split_at.ensures.back
    c.gate_bench_deliver.ensures.session c.gate_bench_deliver.ensures.leaves (search rules)

pub returns : goal.returns
returns c = ends c.loop-asked.invariant (omega arith)
