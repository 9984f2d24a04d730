-- `stores::store_start` stores a tag and a length. Assumes nothing.
use Rattle.stores.proofs.Stored.{stored_then}
use Rattle.stores.proofs.store_start.Goals as goal

pub returns : goal.returns
returns c = stored_then c.store-at_len.ensures c.store_number.ensures
