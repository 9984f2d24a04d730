-- `stores::store_number` stores the lowest bytes of the number. Assumes nothing.
use Rattle.stores.proofs.Stored.{low_bytes}
use Rattle.stores.proofs.store_number.Goals as goal

pub returns : goal.returns
returns c = rw (← low_bytes c.args.width c.args.n c.requires.0 c.requires.1, ← c.to_be_bytes.ensures) c.store.ensures
