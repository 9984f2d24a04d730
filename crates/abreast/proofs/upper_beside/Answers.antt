-- `abreast::upper_beside` meets its contract: 0 is no upper part. Assumes nothing.
use mathlib.Core.Bool.{true≢false}
use mathlib.Core.Path.{sym}
use lib.Ieee.{eq, ne, of_bits}
use Rattle.abreast.proofs.upper_beside.Goals as goal

pub returns : goal.returns
unfolding eq ne of_bits
returns c = λ h. absurd (true≢false (sym h))
