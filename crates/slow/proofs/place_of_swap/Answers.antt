-- `slow::place_of_swap` meets its contract: the index with its bits exchanged is there. Assumes nothing.
use Rattle.slow.proofs.Reach.{other, two_small}
use Rattle.slow.proofs.place_of_swap.Goals as goal

pub exchanged-requires : goal.exchanged-requires
exchanged-requires c = two_small c.requires

pub read_at-requires : goal.read_at-requires
read_at-requires c = rw c.exchanged.ensures (other c.requires)
