-- `terms::sum::squeeze` meets its contract: as many digits are cut off as the upper limb has, so that 64 are left. Assumes nothing.
use mathlib.Core.Path.{◌≡◌, sym, ap, ◌∙◌, subst}
use Prim.Native.Nat.{ℕ, ◌+◌, ◌-◌, ◌*◌, ◌/◌, ◌%◌, ◌^◌, ◌≤◌, ◌<◌}
use native.Mathlib.Nat.{div-mul-le_self, mod-eq_of_lt, mod-eq-sub-div-mul, mod-lt, mul-lt-mul_of_pos_right, div-lt_iff_lt-mul}
use native.Mathlib.Omega.{arith}
use lib.Pow.{pow_pos, pow_mono}
use lib.Ieee.{size}
use lib.Ieee.Digits.{size-le, size-lt}
use Rattle.rounding.specs.Odd.{to_odd, cut_to_odd}
use Rattle.terms.specs.Terms.{upper}
use Rattle.terms.proofs.sum.squeeze.Goals as goal

-- what is known of a number whose upper limb has n digits
record Cut (w n : ℕ) : Type 0 where
  few : n ≤ 63
  quotient : w / 2 ^ n < 2 ^ 64
  rest : w % 2 ^ n < 2 ^ 64
  left : w - w / 2 ^ n * 2 ^ n % 2 ^ 128 ≡ w % 2 ^ n

cut : (w n : ℕ) → w < 2 ^ 127 → n ≡ size (upper w) → Cut w n
cut w n fits e =
    let upper_fits : upper w < 2 ^ 63 = omega arith in
    let few : n ≤ 63 = omega (arith, size-le (upper w) 63 upper_fits) in
    let digits : upper w < 2 ^ n = subst (λ (k : ℕ). upper w < 2 ^ k) (sym e) (size-lt (upper w)) in
    let below : w < 2 ^ 64 * 2 ^ n = omega (arith, mul-lt-mul_of_pos_right digits (pow_pos 64)) in
    let small : 2 ^ n ≤ 2 ^ 63 = pow_mono few in
    let back : w / 2 ^ n * 2 ^ n < 2 ^ 128 = omega (arith, div-mul-le_self w (2 ^ n)) in
    record {
      few = few;
      quotient = (div-lt_iff_lt-mul (pow_pos n)).1 below;
      rest = omega (arith, mod-lt w (pow_pos n));
      left = ap (λ (k : ℕ). w - k) (mod-eq_of_lt back) ∙ sym (mod-eq-sub-div-mul w (2 ^ n));
    }

pub overflow_shr-q : goal.overflow_shr-q
overflow_shr-q c = omega (arith, (cut c.args.w c.digits-n.result c.requires.0 c.digits-n.ensures).few)

pub overflow_cast-q-2 : goal.overflow_cast-q-2
overflow_cast-q-2 c = record { fits = (cut c.args.w c.digits-n.result c.requires.0 c.digits-n.ensures).quotient }

pub overflow_shl-q : goal.overflow_shl-q
overflow_shl-q c = omega (arith, (cut c.args.w c.digits-n.result c.requires.0 c.digits-n.ensures).few)

pub overflow_cast-w-2 : goal.overflow_cast-w-2
overflow_cast-w-2 c =
    let k = cut c.args.w c.digits-n.result c.requires.0 c.digits-n.ensures in
    record { fits = subst (λ (x : ℕ). x < 2 ^ 64) (sym k.left) k.rest }

pub overflow_add-result : goal.overflow_add-result
overflow_add-result c = omega (arith, (cut c.args.w c.digits-n.result c.requires.0 c.digits-n.ensures).few)

pub returns : goal.returns
unfolding cut_to_odd
returns c =
    let w = c.args.w in
    let n = c.digits-n.result in
    let k = cut w n c.requires.0 c.digits-n.ensures in (
      c.to_odd.ensures ∙ ap (to_odd (w / 2 ^ n)) k.left ∙ ap (cut_to_odd w) c.digits-n.ensures,
      ap (λ (x : ℕ). c.args.e + x) c.digits-n.ensures,
    )
