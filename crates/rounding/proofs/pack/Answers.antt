-- `rounding::pack` meets its contract: nothing rounds to zero, and what is far is above the limit from which on the infinity is the answer. Assumes nothing.
use mathlib.Core.Path.{◌≡◌, refl, sym, ap, ◌∙◌}
use Prim.Native.Nat.{ℕ, suc, ◌+◌, ◌-◌, ◌*◌, ◌^◌, ◌≤◌, ◌<◌}
use native.Mathlib.Nat.{le_trans, le_of_eq, mul-le-mul_right, one-mul, sub-le, zero-mul}
use native.Mathlib.Omega.{arith}
use mathlib.Core.Bool.{Bool}
use lib.Dec.{lit≤}
use lib.Pow.{pow-add, pow_pos, pow_mono}
use lib.Ieee.{Format, binary64, prec, emax, low, hid, units, round}
use Rattle.numbers.specs.Nearest.{limit}
use Rattle.numbers.proofs.BitsOf.{units_inf}
use Rattle.numbers.proofs.Rounding.{round_over}
use Rattle.rounding.specs.Working.{below, scale}
use Rattle.rounding.proofs.pack.Goals as goal

nothing : (neg : Bool) → units binary64 neg 0 0 ≡ round binary64 neg 0 (scale binary64)
unfolding units round
nothing neg = refl

beyond : (f : Format) (s e : ℕ) → 0 < s → suc (emax f) + (below f + low f) ≤ e → limit f * scale f ≤ s * 2 ^ e
beyond f s e h k =
    let one : 2 ^ e ≤ s * 2 ^ e = le_trans (le_of_eq (sym (one-mul (2 ^ e)))) (mul-le-mul_right (2 ^ e) h) in
    le_trans (mul-le-mul_right (scale f) (sub-le (2 ^ suc (emax f)) (2 ^ (emax f - prec f))))
    (le_trans (le_of_eq (sym (pow-add 2 (suc (emax f)) (below f + low f)))) (le_trans (pow_mono k) one))

pub returns-then-s-eq0 : goal.returns-then-s-eq0
returns-then-s-eq0 c = let a = c.args in
    c.assemble.ensures ∙ nothing a.neg
    ∙ ap (λ (n : ℕ). round binary64 a.neg n (scale binary64)) (sym (ap (λ (s : ℕ). s * 2 ^ a.e) c.if-s-eq0.true ∙ zero-mul (2 ^ a.e)))

pub returns : goal.returns
returns c = let a = c.args in
    c.assemble-2.ensures ∙ units_inf binary64 a.neg (hid binary64) 2047 (lit≤ tt)
    ∙ sym (round_over binary64 a.neg (a.s * 2 ^ a.e) (scale binary64) (pow_pos (below binary64 + low binary64))
    (beyond binary64 a.s a.e (omega arith) (omega arith)))
