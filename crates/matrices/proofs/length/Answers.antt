-- `matrices::length` meets its contract, by the flag. Assumes nothing.
use Rattle.matrices.proofs.Judged.{long_flag}
use Rattle.matrices.proofs.length.Goals as goal

pub returns-then-bad_length : goal.returns-then-bad_length
returns-then-bad_length c = long_flag _ c.bad_length.ensures (rw c.if-bad_length.true)

pub returns : goal.returns
returns c = long_flag _ c.bad_length.ensures (rw c.if-bad_length.false)
