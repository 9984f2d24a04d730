-- `abreast::two` meets its contract: by the law on sides that meet, and else F by F. Assumes nothing.
use Rattle.book.specs.State.{amplitude}
use Rattle.abreast.proofs.Terms.{Told, multiplied}
use Rattle.abreast.proofs.two.Goals as goal

pub returns-then-all_meet : goal.returns-then-all_meet
returns-then-all_meet c =
    let a = c.args in
    let m = c.all_modest.ensures c.if-all_modest.true in
    let h = c.requires c.if-half.true in
    let told : Told a.k a.s a.half (amplitude a.x a.y) = record { re = m.0; im = m.2; upper = h.0; below = h.1 } in
    let met = c.all_meet.ensures c.if-all_meet.true in
    multiplied _ _ told met.0 met.2 c.from_both_sides-re.ensures c.from_both_sides-im.ensures
