-- `stores::store` writes the bytes over a part of the buffer. Assumes nothing.
use native.Mathlib.Omega.{arith}
use Rattle.stores.proofs.Stored.{stored_mid}
use Rattle.stores.proofs.store.Goals as goal

pub returns : goal.returns
returns c = stored_mid c.args.out.now c.args.bytes.now _ c.args.at _ (omega arith) c.copy_from_slice.ensures.after c.requires
