-- What the digits of a root keep: q and r are the root and the rest of the digits that have come down, and what was begun with is all of it, the digits to
-- come included. Assumes nothing.
use mathlib.Core.Path.{◌≡◌, sym, ap, ◌∙◌, subst}
use Prim.Native.Nat.{ℕ, suc, ◌+◌, ◌-◌, ◌*◌, ◌/◌, ◌^◌, ◌≤◌, ◌<◌}
use native.Mathlib.Nat.{mul_assoc, mul-one, mul-div_cancel, pow-succ', le_antisymm}
use native.Mathlib.Omega.{arith}
use mir.Syntax.{w64}
use mir.Val.{Fits}
use lib.Arith.{digits_div}
use lib.Pow.{pow_pos}
use lib.Ieee.{binary64, prec}
use Rattle.rounding.specs.Odd.{to_odd}
use Rattle.roots.specs.Steps.{Rooted, Stepped}

abbrev pub turns : ℕ
turns = prec binary64 + 4

-- after i digits of the root: q and r are its root and rest so far, a the digits to come
pub record Running (n a q r i : ℕ) : Type 0 where
  pub within : i ≤ turns
  pub short : q < 2 ^ i
  pub little : r ≤ 2 * q
  pub fits : a < 2 ^ 64
  pub whole : ((q * q + r) * 2 ^ 64 + a) * 4 ^ (turns - i) ≡ n * 2 ^ 10 * 4 ^ turns

pub start : (n : ℕ) → n < 2 ^ (prec binary64 + 1) → Running n (n * 2 ^ 10) 0 0 0
start n h = record {
  within = omega arith;
  short = omega arith;
  little = omega arith;
  fits = omega arith;
  whole = ap (λ (y : ℕ). y * 4 ^ turns) (plain (n * 2 ^ 10));
}
  where
    plain : (x : ℕ) → (0 * 0 + 0) * 2 ^ 64 + x ≡ x
    plain x = omega arith

pub twice : (q : ℕ) → q < 2 ^ turns → Fits w64 (2 * q)
twice q h = record { fits = go }
  where
    go : 2 * q < 2 ^ 64
    go = omega arith

pub again : (n a q r a' q' r' i : ℕ) → Running n a q r i → i < turns → Stepped a q r a' q' r' → Running n a' q' r' (i + 1)
again n a q r a' q' r' i R l S = record {
  within = up i l;
  short = subst (λ (y : ℕ). q' < 2 ^ y) (one i) (subst (λ (y : ℕ). q' < y) (sym (pow-succ' 2 i)) (grow q q' (2 ^ i) R.short S.most));
  little = S.little;
  fits = S.fits;
  whole =
      ap (λ (y : ℕ). y * 4 ^ (turns - (i + 1))) S.square
      ∙ mul_assoc ((q * q + r) * 2 ^ 64 + a) 4 (4 ^ (turns - (i + 1)))
      ∙ ap (λ (y : ℕ). ((q * q + r) * 2 ^ 64 + a) * y) (sym (pow-succ' 4 (turns - (i + 1))) ∙ ap (λ (y : ℕ). 4 ^ y) (left i l))
      ∙ R.whole;
}
  where
    up : (i : ℕ) → i < turns → i + 1 ≤ turns
    up i h = omega arith

    one : (i : ℕ) → suc i ≡ i + 1
    one i = omega arith

    left : (i : ℕ) → i < turns → suc (turns - (i + 1)) ≡ turns - i
    left i h = omega arith

    grow : (q q' p : ℕ) → q < p → q' ≤ 2 * q + 1 → q' < 2 * p
    grow q q' p h k = omega arith

pub end : (n a q r i s : ℕ) → Running n a q r i → turns ≤ i → s ≡ to_odd (2 * q) r → Rooted (n * 4 ^ 30) s
end n a q r i s R l e = record { h = q; rest = r; square = all; little = R.little; marked = e }
  where
    last : i ≡ turns
    last = le_antisymm R.within l

    scaled : (q * q + r) * 2 ^ 64 + a ≡ n * 4 ^ 30 * 2 ^ 64
    scaled =
        sym (mul-one ((q * q + r) * 2 ^ 64 + a)) ∙ sym (ap (λ (y : ℕ). ((q * q + r) * 2 ^ 64 + a) * 4 ^ (turns - y)) last) ∙ R.whole
        ∙ mul_assoc n (2 ^ 10) (4 ^ turns) ∙ sym (mul_assoc n (4 ^ 30) (2 ^ 64))

    all : q * q + r ≡ n * 4 ^ 30
    all = sym (digits_div (q * q + r) R.fits) ∙ ap (λ (y : ℕ). y / 2 ^ 64) scaled ∙ mul-div_cancel (n * 4 ^ 30) (pow_pos 64)
