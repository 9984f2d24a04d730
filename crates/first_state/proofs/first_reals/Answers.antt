-- `first_state::first_reals` meets its contract: 1 is stored at index 0 of zeros. Assumes nothing.
use native.Mathlib.Omega.{arith}
use mathlib.Core.Path.{refl}
use lib.Ieee.{of_int, of_bits}
use Rattle.first_state.proofs.First.{first_real}
use Rattle.first_state.proofs.first_reals.Goals as goal

pub returns : goal.returns
unfolding of_int of_bits
returns c = λ n few. first_real n few 2047 refl refl (omega arith)
