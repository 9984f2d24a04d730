-- A hair of s: s times 2 ^ -cut. A large s has so many zeros behind its digits that this is exact. Assumes nothing.
use mathlib.Core.Path.{◌≡◌, refl, sym, ap, ◌∙◌, subst}
use mathlib.Core.Logic.{◌⊎◌, inl, inr}
use Prim.Native.Nat.{ℕ, suc, ◌+◌, ◌-◌, ◌*◌, ◌/◌, ◌^◌, ◌≤◌, ◌<◌}
use native.Mathlib.Nat.{mul-le-mul_left, mul-le-mul_right, le_trans, le_of_eq, lt_of_le_of_lt, le_refl}
use native.Mathlib.Omega.{arith}
use mathlib.Core.Bool.{Bool, true, false, cond, beq}
use lib.Dec.{lit≤}
use lib.Pow.{pow-add, pow-lt, pow_mono}
use lib.Ieee.{Float, Format, binary32, binary64, prec, emax, low, hid, unlike, mul, of_bits}
use lib.Ieee.Exact.{HasValue}
use Rattle.numbers.proofs.Grid.{dist}
use Rattle.numbers.proofs.Sizes.{pow_lt_back}
use Rattle.exact.specs.Signed.{Differ, Is, Held}
use Rattle.exact.specs.Steps.{Under}
use Rattle.exact.proofs.SignedLaws.{plus, mul_is}
use Rattle.exact.proofs.Written.{from_bits}
use Rattle.short.proofs.Closest.{lowered, mag_is}

-- 2 to the power of -cut, by its bits: a part of s that is small, and not too small
abbrev pub cut : Format → ℕ → ℕ
cut f bits = emax f - bits / hid f

pub record Fine (f : Format) (bits : ℕ) : Type 0 where
  pub power : bits ≡ bits / hid f * hid f
  pub small : bits / hid f ≤ emax f
  pub enough : emax f + 8 ≤ 2 * prec f + bits / hid f

wide : (f : Format) → 8 ≤ prec f
wide binary32 = lit≤ tt
wide binary64 = lit≤ tt

module _ (f : Format) (bits : ℕ) (fine : Fine f bits) where
  -- 64 times 2 ^ cut is no more than the square of what an error is a part in
  pub square : 64 * 2 ^ cut f bits ≤ 2 ^ (prec f - 1) * 2 ^ (prec f - 1)
  square = le_trans (le_of_eq (sym (pow-add 2 6 (cut f bits)))) (le_trans (pow_mono (omega (arith, fine.enough, wide f)))
      (le_of_eq (pow-add 2 (prec f - 1) (prec f - 1))))

  -- a count that is an eighth of 2 ^ (3 * prec) has as many zeros
  pub many_zeros : 8 * 2 ^ (prec f + cut f bits) ≤ 2 ^ (3 * prec f)
  many_zeros = le_trans (le_of_eq (sym (pow-add 2 3 (prec f + cut f bits)))) (pow_mono (omega (arith, fine.enough, wide f)))

  hair_has : HasValue (of_bits f bits) false (2 ^ (low f - cut f bits)) (2 ^ low f)
  hair_has = subst (λ (n : ℕ). HasValue (of_bits f bits) false n (2 ^ low f))
      (sym (pow-add 2 (prec f - 1) (bits / hid f - 1)) ∙ ap (λ (n : ℕ). 2 ^ n) (place f (bits / hid f) fine.small fine.enough))
      (from_bits f false bits (bits / hid f - 1) (hid f) (fine.power ∙ next f (bits / hid f) fine.enough) (few f)
      (room f (bits / hid f) fine.small) (le_refl (hid f)))
    where
      place : (f : Format) (k : ℕ) → k ≤ emax f → emax f + 8 ≤ 2 * prec f + k → prec f - 1 + (k - 1) ≡ low f - (emax f - k)
      place binary32 k h l = omega arith
      place binary64 k h l = omega arith

      next : (f : Format) (k : ℕ) → emax f + 8 ≤ 2 * prec f + k → k * hid f ≡ 0 + ((k - 1) * hid f + hid f)
      next binary32 k h = omega arith
      next binary64 k h = omega arith

      few : (f : Format) → hid f ≤ 2 ^ prec f
      few binary32 = lit≤ tt
      few binary64 = lit≤ tt

      room : (f : Format) (k : ℕ) → k ≤ emax f → prec f + suc (k - 1) < low f + suc (emax f)
      room binary32 k h = omega arith
      room binary64 k h = omega arith

  pub hair_under : Under f 0 (of_bits f bits)
  hair_under = record { sgn = false; n = 2 ^ (low f - cut f bits); has = hair_has; most = pow_mono (omega arith) }

-- a hair of s₊ - s₋ is m₊ - m₋
pub record Part (f : Format) (cut : ℕ) (h : Float) (s : Bool) (s₊ s₋ : ℕ) : Type 0 where
  pub m₊ : ℕ
  pub m₋ : ℕ
  pub is : Is f h s m₊ m₋
  pub size : dist m₊ m₋ * 2 ^ cut ≡ dist s₊ s₋

-- n smallest values, n being q times W, times C of W * C
record Cut (z : Bool) (q C W a b : ℕ) : Type 0 where
  equal : a * C + b * 0 + cond z 0 q * (C * W) ≡ a * 0 + b * C + cond z q 0 * (C * W)
  gap : (cond z q 0 ≡ cond z 0 q + q) ⊎ (cond z 0 q ≡ cond z q 0 + q)
  size : dist (cond z q 0) (cond z 0 q) ≡ q

cut_off : (z : Bool) (q C W a b : ℕ) → Differ z (q * W) a b → Cut z q C W a b
cut_off true q C W a b h = record { equal = rw h (omega arith); gap = inl (omega arith); size = omega arith }
cut_off false q C W a b h = record { equal = rw h (omega arith); gap = inr (omega arith); size = omega arith }

module _ (f : Format) (bits : ℕ) (fine : Fine f bits) (x : Float) (s : Bool) (s₊ s₋ : ℕ) (S : Is f x s s₊ s₋) (H : Held f s₊ s₋)
    (large : 2 ^ (prec f + cut f bits) ≤ dist s₊ s₋) where
  abbrev q : ℕ
  q = H.head * 2 ^ (H.zeros - cut f bits)

  size_s : dist s₊ s₋ ≡ H.head * 2 ^ H.zeros
  size_s = elim H.gap [ inl e ↦ omega arith | inr e ↦ omega arith ]

  enough : cut f bits ≤ H.zeros
  enough =
      let few = le_trans (mul-le-mul_right (2 ^ H.zeros) H.few) (le_of_eq (sym (pow-add 2 (prec f) H.zeros))) in
      let h = le_trans large (le_trans (le_of_eq size_s) few) in
      let l = pow_lt_back (prec f + cut f bits) (suc (prec f + H.zeros)) (lt_of_le_of_lt h (pow-lt (le_refl (suc (prec f + H.zeros))))) in
      omega arith

  many : q * 2 ^ cut f bits ≡ S.mag
  many = sym (lowered H.head (cut f bits) H.zeros enough) ∙ sym size_s ∙ mag_is S

  pub part : Part f (cut f bits) (mul f x (of_bits f bits)) s s₊ s₋
  part =
      let z = beq S.sgn s in
      let c = cut_off z q (2 ^ (low f - cut f bits)) (2 ^ cut f bits) s₊ s₋ (rw many S.gap) in
      record {
        m₊ = cond z q 0;
        m₋ = cond z 0 q;
        is = subst (λ (u : Bool). Is f (mul f x (of_bits f bits)) u (cond z q 0) (cond z 0 q)) (like s)
            (mul_is S (plus (hair_has f bits fine)) (rw (unit f bits) c.equal) record {
              head = H.head;
              zeros = H.zeros - cut f bits;
              gap = c.gap;
              few = H.few;
              under = lt_of_le_of_lt (mul-le-mul_left H.head (pow_mono (omega arith))) H.under;
            });
        size = rw c.size (many ∙ sym (mag_is S));
      }
    where
      unit : (f : Format) (bits : ℕ) → 2 ^ low f ≡ 2 ^ (low f - cut f bits) * 2 ^ cut f bits
      unit f bits = ap (λ (n : ℕ). 2 ^ n) (whole f (bits / hid f)) ∙ pow-add 2 (low f - cut f bits) (cut f bits)
        where
          whole : (f : Format) (k : ℕ) → low f ≡ low f - (emax f - k) + (emax f - k)
          whole binary32 k = omega arith
          whole binary64 k = omega arith

      like : (s : Bool) → unlike s false ≡ s
      like true = refl
      like false = refl
