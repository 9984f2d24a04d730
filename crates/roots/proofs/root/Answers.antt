-- `roots::root` meets its contract: of an ordinary number above zero the root is the digits', packed, and any other operand needs no digits. Assumes nothing.
use mathlib.Core.Path.{refl, sym, ap, ◌∙◌}
use Prim.Native.Nat.{◌*◌, ◌^◌}
use lib.Pow.{pow_pos}
use lib.Ieee.{binary64, low, lt}
use Rattle.numbers.proofs.Roots.{root_at}
use Rattle.operands.proofs.Floats.{zero_is, nan_is, value_pos}
use Rattle.roots.proofs.Special.{root_negative, root_itself, not_negative}
use Rattle.roots.proofs.Rooting.{rooted_scaled}
use Rattle.roots.proofs.root.Goals as goal

pub returns-then-x : goal.returns-then-x
returns-then-x c = let x = c.args.x in nan_is ∙ root_negative binary64 x (ap (lt x) (sym zero_is) ∙ c.if-x.true)

pub returns-in_default : goal.returns-in_default
returns-in_default c =
    let x = c.args.x in
    c.with_one_nan.ensures ∙ root_itself binary64 x (ap (lt x) (sym zero_is) ∙ c.if-x.false) c.in_default.ensures

pub returns : goal.returns
returns c =
    let x = c.args.x in
    let u = c.in-Some.p in
    let p = c.even_power-c in
    let d = c.root_digits in
    let (o, h) = c.in-Some.ensures in
    c.pack.ensures
    ∙ rooted_scaled binary64 30 u.m u.e p.result.s p.result.e d.result refl p.ensures p.ensures.far d.ensures
    ∙ sym (root_at binary64 x (u.m * 2 ^ u.e) (2 ^ low binary64) (pow_pos (low binary64))
    (value_pos x u.neg (u.m * 2 ^ u.e) (2 ^ low binary64) (pow_pos (low binary64)) o h)
    (not_negative x u.neg (u.m * 2 ^ u.e) (2 ^ low binary64) (ap (lt x) (sym zero_is) ∙ c.if-x.false) o h))
