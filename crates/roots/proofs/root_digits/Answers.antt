-- `roots::root_digits` meets its contract, by what `Digits` says of each digit. Assumes nothing.
use native.Mathlib.Nat.{lt_of_lt_of_le}
use native.Mathlib.Omega.{arith}
use lib.Pow.{pow_mono}
use Rattle.roots.proofs.Digits.{start, twice, again, end}
use Rattle.roots.proofs.root_digits.Goals as goal

pub loop-i-init : goal.loop-i-init
loop-i-init c = start c.args.n c.requires

pub root_step-d-requires : goal.root_step-d-requires
root_step-d-requires c = let v = c.loop-i.invariant in (lt_of_lt_of_le v.short (pow_mono v.within), v.little)

pub loop-i-preserved : goal.loop-i-preserved
loop-i-preserved c =
    let l = c.loop-i in
    let r = c.root_step-d.result in
    again c.args.n l.d.a l.d.q l.d.r r.a r.q r.r l._i l.invariant (omega arith) c.root_step-d.ensures

pub overflow_mul-d-2 : goal.overflow_mul-d-2
overflow_mul-d-2 c = let l = c.loop-i in twice l.d.q (lt_of_lt_of_le l.invariant.short (pow_mono l.invariant.within))

pub returns : goal.returns
returns c = let l = c.loop-i in end c.args.n l.d.a l.d.q l.d.r l._i c.to_odd.result l.invariant (omega arith) c.to_odd.ensures
