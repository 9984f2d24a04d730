-- `words::add_bits` stores the sixteen digits of the bits. Assumes nothing.
use Rattle.words.proofs.Writing.{bits_is}
use Rattle.words.proofs.add_bits.Goals as goal

pub returns : goal.returns
returns c = bits_is _ c.bits_of.ensures c.add_hex.ensures
