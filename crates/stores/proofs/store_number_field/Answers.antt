-- `stores::store_number_field` stores a field of one number: its length is the width. Assumes nothing.
use Rattle.stores.proofs.Stored.{stored_field}
use Rattle.wire.proofs.Numbers.{length_bytes}
use Rattle.stores.proofs.store_number_field.Goals as goal

pub returns : goal.returns
returns c = stored_field (length_bytes c.args.width c.args.n) c.store_start-at_number.ensures c.store_number.ensures
