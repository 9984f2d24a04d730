-- `short::are_near` meets its contract. Assumes nothing.
use Rattle.operands.proofs.Floats.{ordinary_number}
use Rattle.short.proofs.are_near.Goals as goal

pub apart-requires : goal.apart-requires
apart-requires c = ordinary_number _ c.requires.0

pub apart-requires-2 : goal.apart-requires-2
apart-requires-2 c = ordinary_number _ c.requires.1

pub apart-requires-3 : goal.apart-requires-3
apart-requires-3 c = ordinary_number _ c.requires.2
