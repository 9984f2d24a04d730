-- `slow::place_of_pair` meets its contract: by the three cases of a place. Assumes nothing.
use mathlib.Core.Path.{sym, ◌∙◌}
use Rattle.book.proofs.Places.{placed_neither}
use Rattle.slow.proofs.Reach.{above, power, not_chosen, set, lower_place, upper_place}
use Rattle.slow.proofs.place_of_pair.Goals as goal

pub returns-then-i-ones : goal.returns-then-i-ones
returns-then-i-ones c = let a = c.args in
    c.read_at-own.ensures ∙ sym (placed_neither _ _ a.controls _ a.i (not_chosen _ _ c.if-i-ones.true))

pub returns-then-i-target-eq0 : goal.returns-then-i-target-eq0
returns-then-i-target-eq0 c = lower_place _ _ c.args.controls _ _ c.if-i-ones.false (power c.requires) c.if-i-target-eq0.true c.read_at-own.ensures
    c.read_at.ensures c.put-both.ensures

pub returns : goal.returns
returns c = upper_place _ _ c.args.controls _ _ c.if-i-ones.false (power c.requires) (set _ _ c.if-i-target-eq0.false)
    c.read_at-2.ensures c.read_at-own.ensures c.put-both-2.ensures

pub read_at-requires : goal.read_at-requires
read_at-requires c = let r = c.requires in rw (power r) (above r c.if-i-target-eq0.true)
