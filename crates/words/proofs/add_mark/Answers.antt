-- `words::add_mark` stores the eight digits of a mark. Assumes nothing.
use Rattle.words.proofs.Writing.{mark_is}
use Rattle.words.proofs.add_mark.Goals as goal

pub returns : goal.returns
returns c = mark_is _ c.add_hex.ensures
