-- `sweeps::put_chosen` meets its contract: the chosen pairs are those of the keys with the controls' bits and the target's. Assumes nothing.
use native.Mathlib.Omega.{arith}
use Rattle.pairs.proofs.Gate.{gate_small, gate_asks, gate_swept}
use Rattle.sweeps.proofs.put_chosen.Goals as goal

pub overflow_add-fixed : goal.overflow_add-fixed
overflow_add-fixed g c = omega (arith, gate_small c.requires)

pub by_keys-requires : goal.by_keys-requires
by_keys-requires g c = gate_asks c.requires

pub sweep-requires : goal.sweep-requires
sweep-requires g c = gate_asks c.requires

pub returns-then-NEEDS_F : goal.returns-then-NEEDS_F
returns-then-NEEDS_F g c = gate_swept c.requires c.by_keys.ensures

pub returns : goal.returns
returns g c = gate_swept c.requires c.sweep.ensures
