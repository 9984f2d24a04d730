-- `abreast::four` meets its contract: for each amplitude by the law on sides that meet, and else F by F. Assumes nothing.
use mathlib.Core.Path.{ap₂}
use Rattle.book.specs.State.{pair}
use Rattle.abreast.proofs.Terms.{Told, multiplied}
use Rattle.abreast.proofs.four.Goals as goal

pub returns-then-all_meet : goal.returns-then-all_meet
returns-then-all_meet c =
    let a = c.args in
    let m = c.all_modest.ensures c.if-all_modest.true in
    let h = c.requires c.if-half.true in
    let ab : Told a.k a.s a.half a.ab = record { re = m.0; im = m.2; upper = h.0; below = h.1 } in
    let cd : Told a.k a.s a.half a.cd = record { re = m.1; im = m.3; upper = h.0; below = h.1 } in
    let met = c.all_meet.ensures c.if-all_meet.true in
    rw c.lefts.ensures (ap₂ pair (multiplied _ _ ab met.0 met.2 c.from_both_sides-re0.ensures c.from_both_sides-im0.ensures)
    (multiplied _ _ cd met.1 met.3 c.from_both_sides-re1.ensures c.from_both_sides-im1.ensures))
