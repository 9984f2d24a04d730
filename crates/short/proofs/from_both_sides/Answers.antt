-- `short::from_both_sides` meets its contract: where both sides are one number, F lies between them. Assumes nothing.
use mathlib.Core.Path.{refl, sym, subst}
use lib.Dec.{T, lit≤}
use lib.Ieee.{binary64, fits}
use Rattle.short.proofs.Answer.{answer}
use Rattle.short.proofs.from_both_sides.Goals as goal

pub returns : goal.returns
returns c = let held : (T (fits binary64 c.args.z)) = subst T (sym c.well_formed.1.1.1.0.1) tt in
    λ meet under. let e = c.product_error-e in
    rw c.sum_error.ensures (answer binary64 c.args.x c.args.y c.args.z e.result e.ensures under held
    _ (rw c.sum_error.ensures at meet) record { power = refl; small = lit≤ tt; enough = lit≤ tt })
