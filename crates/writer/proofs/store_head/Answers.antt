-- `writer::store_head` stores fields 01 to 04, one behind the other. Assumes nothing.
use Rattle.stores.proofs.Stored.{stored_then}
use Rattle.writer.proofs.store_head.Goals as goal

pub returns : goal.returns
returns c = let two = stored_then c.store_number_field-at_number.ensures c.store_number_field-at_code.ensures in
    stored_then (stored_then two c.store_number_field-at_target.ensures) c.store_number_field.ensures
