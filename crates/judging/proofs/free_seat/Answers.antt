-- `judging::free_seat` meets its contract: without controls tests 3, 4 and 5 look at the target alone. Assumes nothing.
use Rattle.seated.proofs.Seats.{free_judged}
use Rattle.judging.proofs.free_seat.Goals as goal

pub returns : goal.returns
returns c = free_judged 32 _ _ _ (rw c.of.ensures at c.seat.ensures)
