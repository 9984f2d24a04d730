-- `transposes::turn_at` meets its contract, by which of a place and its mirror comes first. Assumes nothing.
use native.Mathlib.Omega.{arith}
use Rattle.matrices.proofs.Fills.{fewer}
use Rattle.transposes.proofs.Mirrors.{mirror_lt}
use Rattle.transposes.proofs.turn_at.Goals as goal

pub cross-requires : goal.cross-requires
cross-requires c = (fewer (omega arith) c.requires.2, fewer (omega (arith, mirror_lt _ _ c.requires.0, c.mirror_of-other.ensures)) c.requires.2)
