-- `c_api::deliveries::gate_bench_deliver` tells what the delivery says, and keeps its session. Assumes nothing.
use Rattle.c_api.proofs.Kept.{tells}
use Rattle.c_api.proofs.deliveries.gate_bench_deliver.Goals as goal

pub returns : goal.returns
returns c = let delivers = rw c.session_in.ensures at c.deliver-delivered.ensures in
    search (tells delivers c.keep.ensures c.tell_reply.ensures)
