-- `fused_rules::rz_rule` meets its contract: where k, s and -s are split and the pair's parts are modest, their products with k and s are small, and so
-- sides that meet are F. Assumes nothing.
use mathlib.Core.Path.{ap₂}
use lib.Ieee.{binary64}
use Rattle.short.proofs.Unders.{under_neg}
use Rattle.abreast.proofs.Terms.{product, product_neg}
use Rattle.book.specs.State.{amplitude, pair}
use Rattle.fused_rules.proofs.rz_rule.Goals as goal

pub returns-then-all_meet : goal.returns-then-all_meet
returns-then-all_meet c =
    let small = c.all_modest.ensures c.if-all_modest.true in
    let k_most = (c.args.h.s_split c.if-h-2.true).1 in
    let s_most = (c.args.h.k_split c.if-h.true).1 in
    let met = c.all_meet.ensures c.if-all_meet.true in
    rw c.lefts.ensures (ap₂ pair
    (ap₂ amplitude
    (c.from_both_sides-re0.ensures met.0 (product_neg binary64 _ _ small.2.under (under_neg binary64 1 _ s_most)))
    (c.from_both_sides-im0.ensures met.1 (product binary64 _ _ small.2.under k_most)))
    (ap₂ amplitude
    (c.from_both_sides-re1.ensures met.2 (product_neg binary64 _ _ small.3.under s_most))
    (c.from_both_sides-im1.ensures met.3 (product binary64 _ _ small.3.under k_most))))
