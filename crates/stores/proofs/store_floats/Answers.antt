-- `stores::store_floats` stores floats as their bits, one after the other. Assumes nothing.
use native.Mathlib.Omega.{arith}
use lib.Ieee.{nan}
use Rattle.stores.proofs.Stored.{stored_float, stored_none, passed}
use Rattle.stores.proofs.store_floats.Goals as goal

pub loop-x-init : goal.loop-x-init
loop-x-init c = (omega arith, stored_none c.args.out.now c.args.at)

pub store_number-next-requires : goal.store_number-next-requires
store_number-next-requires c = let l = c.loop-x in
    (omega arith, omega (arith, c.bits_of.type_inv), omega (arith, passed c.args.numbers.now l.x-index (omega arith) l.invariant.1))

pub loop-x-preserved : goal.loop-x-preserved
loop-x-preserved c = let l = c.loop-x in
    (omega arith, stored_float c.args.numbers.now l.x-index nan (omega arith) c.bits_of.ensures l.invariant.1 c.store_number-next.ensures)
