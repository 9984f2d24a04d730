-- `sessions::Session::deliver_all` meets its contract: each turn is one delivery of the book's, and what is left comes to what all comes to. Assumes nothing.
use Rattle.std.proofs.Common.{arith, rules}
use Rattle.once.proofs.Loop.{turn, ends}
use Rattle.sessions.proofs.Session.deliver_all.Goals as goal

pub loop-asked-preserved : goal.loop-asked-preserved
loop-asked-preserved g c =
    turn c.loop-asked.invariant (omega arith) c.next_size.ensures c.split_at.ensures.front c.split_at.ensures.back
    c.deliver.ensures.next c.deliver.ensures.leaves (search rules)

pub returns : goal.returns
returns g c = ends c.loop-asked.invariant (omega arith)
