-- `short::all_modest` meets its contract. Assumes nothing.
use native.Mathlib.Omega.{arith}
use borrow.Author.Tests.{eqb-true}
use lib.Ieee.{binary64}
use Rattle.short.proofs.Tests.{sum_numbers}
use Rattle.short.proofs.all_modest.Goals as goal

pub apart-requires : goal.apart-requires
apart-requires c = (sum_numbers binary64 _ _ (sum_numbers binary64 _ _ c.if-is_nan.ensures.not_nan).0).0

pub apart-requires-2 : goal.apart-requires-2
apart-requires-2 c = (sum_numbers binary64 _ _ (sum_numbers binary64 _ _ c.if-is_nan.ensures.not_nan).1).0

pub apart-requires-3 : goal.apart-requires-3
apart-requires-3 c = (sum_numbers binary64 _ _ (sum_numbers binary64 _ _ c.if-is_nan.ensures.not_nan).0).1

pub apart-requires-4 : goal.apart-requires-4
apart-requires-4 c = (sum_numbers binary64 _ _ (sum_numbers binary64 _ _ c.if-is_nan.ensures.not_nan).1).1

pub returns : goal.returns
returns c = λ h. (
  c.apart.ensures.modest (omega (arith, eqb-true)),
  c.apart-2.ensures.modest (omega (arith, eqb-true)),
  c.apart-3.ensures.modest (omega (arith, eqb-true)),
  c.apart-4.ensures.modest (omega (arith, eqb-true)),
)
