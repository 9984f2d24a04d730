-- `short::are_fit` meets its contract. Assumes nothing.
use lib.Ieee.{binary64}
use Rattle.short.proofs.Tests.{sum_numbers}
use Rattle.short.proofs.are_fit.Goals as goal

pub apart-requires : goal.apart-requires
apart-requires c = (sum_numbers binary64 _ _ c.if-is_nan.ensures.not_nan).0

pub apart-requires-2 : goal.apart-requires-2
apart-requires-2 c = (sum_numbers binary64 _ _ c.if-is_nan.ensures.not_nan).1
