-- `transposes::cross` meets its contract: two places read, then written. Assumes nothing.
use native.Mathlib.Omega.{arith}
use lib.ListN.{length-set}
use Rattle.transposes.proofs.Mirrors.{crossed_stores}
use Rattle.transposes.proofs.cross.Goals as goal

pub bounds-reals-j-2 : goal.bounds-reals-j-2
bounds-reals-j-2 c = rw length-set (omega (arith, c.requires.1.reals))

pub bounds-imags-j-2 : goal.bounds-imags-j-2
bounds-imags-j-2 c = rw length-set (omega (arith, c.requires.1.imags))

pub returns : goal.returns
returns c = crossed_stores _ _ _ _ c.requires.0 c.requires.1
