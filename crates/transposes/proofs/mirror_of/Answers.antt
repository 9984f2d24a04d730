-- `transposes::mirror_of` meets its contract: the mirror is within the matrix, so nothing wraps. Assumes nothing.
use Rattle.transposes.proofs.Mirrors.{mirror_is}
use Rattle.transposes.proofs.mirror_of.Goals as goal

pub returns : goal.returns
returns c = mirror_is _ _
