-- `c_api::feeds::gate_bench_feed` writes back what the form keeps, and tells what was told. Assumes nothing.
use Rattle.c_api.proofs.Kept.{tells_fed}
use Rattle.c_api.proofs.feeds.gate_bench_feed.Goals as goal

pub returns : goal.returns
returns c = let takes = rw c.session_in.ensures at c.take_piece-fed.ensures in
    search (tells_fed takes c.keep.ensures c.tell_told.ensures)
