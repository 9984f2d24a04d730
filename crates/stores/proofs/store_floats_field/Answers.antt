-- `stores::store_floats_field` stores a field of floats: its length is eight bytes for each. Assumes nothing.
use Rattle.stores.proofs.Stored.{stored_field}
use Rattle.wire.proofs.Floats.{length_floats}
use Rattle.stores.proofs.store_floats_field.Goals as goal

pub returns : goal.returns
returns c = stored_field (length_floats c.args.numbers.now) c.store_start-at_floats.ensures c.store_floats.ensures
