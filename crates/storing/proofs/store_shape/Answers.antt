-- `storing::store_shape` stores the fields behind 04, shape by shape. Assumes nothing.
use Rattle.stores.proofs.Stored.{stored_then}
use Rattle.storing.proofs.store_shape.Goals as goal

pub returns-in-Angled : goal.returns-in-Angled
returns-in-Angled c = rw c.in-Angled.is (stored_then c.store_mask-next.ensures c.store_floats_field.ensures)

pub returns-in-Eight : goal.returns-in-Eight
returns-in-Eight c = rw c.in-Eight.is (stored_then c.store_mask-next-in-Eight.ensures c.store_floats_field-in-Eight.ensures)
