-- Signed numbers by their sign and size: products, sums, how far two lie apart, and the part of a sum that is above zero. Assumes nothing.
use mathlib.Core.Path.{◌≡◌, refl, sym, ap, ap₂, ◌∙◌}
use Prim.Native.Nat.{ℕ, zero, suc, ◌+◌, ◌-◌, ◌*◌, ◌≤◌, ◌<◌}
use native.Mathlib.Nat.{zero-mul, mul-zero, zero-add, add-zero, suc-add, add-suc, add-mul}
use native.Mathlib.Omega.{arith}
use mathlib.Core.Bool.{Bool, true, false, not, cond, beq, true≢false}
use lib.IntN.{ℤ, pos, negsuc, neg_ℤ, nat_abs, ◌+ℤ◌, ◌-ℤ◌, ◌*ℤ◌, +ℤ_idl, +ℤ_idr, +ℤ_comm}
use lib.Dec.{T, ltb, ltb→lt, nltb→le}
use lib.Ieee.{unlike}
use Rattle.numbers.proofs.Signs.{turned}
use Rattle.numbers.proofs.Sums.{sub_mul}
use Rattle.numbers.specs.Nearest.{signed, at_least_zero}

pub size_signed : (s : Bool) (n : ℕ) → nat_abs (signed s n) ≡ n
size_signed false n = refl
size_signed true zero = refl
size_signed true (suc n) = refl

no_sign : (n : ℕ) → n ≡ 0 → neg_ℤ (pos n) ≡ pos n
no_sign n e = ap (λ (x : ℕ). neg_ℤ (pos x)) e ∙ sym (ap pos e)

-- ---- a product
pub product : (s : Bool) (m : ℕ) (t : Bool) (n : ℕ) → signed s m *ℤ signed t n ≡ signed (unlike s t) (m * n)
product false m false n = refl
product false m true zero = sym (no_sign (m * 0) (mul-zero m))
product false m true (suc n) = refl
product true zero false n = sym (no_sign (0 * n) (zero-mul n))
product true (suc m) false n = refl
product true zero true zero = refl
product true zero true (suc n) = no_sign (0 * suc n) (zero-mul (suc n))
product true (suc m) true zero = no_sign (suc m * 0) (mul-zero (suc m))
product true (suc m) true (suc n) = refl

pub plus : (u : Bool) → unlike u false ≡ u
plus true = refl
plus false = refl

-- ---- a sum
pub plus_same : (s : Bool) (a b : ℕ) → signed s a +ℤ signed s b ≡ signed s (a + b)
plus_same false a b = refl
plus_same true zero b = +ℤ_idl (signed true b) ∙ ap (signed true) (sym (zero-add b))
plus_same true (suc a) zero = +ℤ_idr (negsuc a) ∙ ap (signed true) (sym (add-zero (suc a)))
plus_same true (suc a) (suc b) = ap (signed true) (sym (suc-add a (suc b) ∙ ap suc (add-suc a b)))

difference : (a b : ℕ) → (a < b → pos a +ℤ signed true b ≡ signed true (b - a)) × (b ≤ a → pos a +ℤ signed true b ≡ pos (a - b))
difference a zero = ((λ h. absurd (omega arith)), λ h. +ℤ_idr (pos a) ∙ ap pos (omega arith))
difference a (suc b) = (λ h. go_below h (ltb a (suc b)) (nltb→le a (suc b)), λ h. go_above h (ltb a (suc b)) (ltb→lt a (suc b)))
  where
    go_below : a < suc b → (t : Bool) → (T (not t) → suc b ≤ a) → cond t (negsuc (suc b - suc a)) (pos (a - suc b)) ≡ signed true (suc b - a)
    go_below h true k = ap (signed true) one
      where
        one : suc (suc b - suc a) ≡ suc b - a
        one = omega arith
    go_below h false k = absurd (let g : suc b ≤ a = k tt in omega arith)

    go_above : suc b ≤ a → (t : Bool) → (T t → a < suc b) → cond t (negsuc (suc b - suc a)) (pos (a - suc b)) ≡ pos (a - suc b)
    go_above h true k = absurd (let g : a < suc b = k tt in omega arith)
    go_above h false k = refl

-- of two signs, the first's number no smaller
pub plus_other : (s t : Bool) (a b : ℕ) → beq s t ≡ false → b ≤ a → signed s a +ℤ signed t b ≡ signed s (a - b)
plus_other true true a b e h = absurd (true≢false e)
plus_other false false a b e h = absurd (true≢false e)
plus_other false true a b e h = (difference a b).1 h
plus_other true false a b e h = +ℤ_comm (signed true a) (pos b) ∙ go (ltb b a) (ltb→lt b a) (nltb→le b a)
  where
    go : (x : Bool) → (T x → b < a) → (T (not x) → a ≤ b) → pos b +ℤ signed true a ≡ signed true (a - b)
    go true k l = (difference b a).0 (k tt)
    go false k l = let i : a ≤ b = l tt in (difference b a).1 i ∙ ap pos (zeros i) ∙ sym (ap (signed true) (zeros' i))
      where
        zeros : a ≤ b → b - a ≡ 0
        zeros i = omega arith

        zeros' : a ≤ b → a - b ≡ 0
        zeros' i = omega arith

-- ---- how far ±a and ±b lie apart
abbrev pub apart : Bool → ℕ → Bool → ℕ → ℕ
apart s a t b = cond (beq s t) (a - b + (b - a)) (a + b)

negated : (t : Bool) (b : ℕ) → neg_ℤ (signed t b) ≡ signed (not t) b
negated false b = refl
negated true zero = refl
negated true (suc b) = refl

pub apart_is : (s : Bool) (a : ℕ) (t : Bool) (b : ℕ) → nat_abs (signed s a -ℤ signed t b) ≡ apart s a t b
apart_is s a t b = ap (λ (z : ℤ). nat_abs (signed s a +ℤ z)) (negated t b) ∙ go s t
  where
    other : (s t : Bool) → beq s t ≡ false → nat_abs (signed s a +ℤ signed t b) ≡ a - b + (b - a)
    other s t e = pick (ltb a b) (ltb→lt a b) (nltb→le a b)
      where
        pick : (x : Bool) → (T x → a < b) → (T (not x) → b ≤ a) → nat_abs (signed s a +ℤ signed t b) ≡ a - b + (b - a)
        pick true k l =
            let h : a < b = k tt in
            ap nat_abs (+ℤ_comm (signed s a) (signed t b) ∙ plus_other t s b a (turned s t ∙ e) (omega arith)) ∙ size_signed t (b - a) ∙ omega arith
        pick false k l = let h : b ≤ a = l tt in ap nat_abs (plus_other s t a b e h) ∙ size_signed s (a - b) ∙ omega arith

    go : (s t : Bool) → nat_abs (signed s a +ℤ signed (not t) b) ≡ apart s a t b
    go true true = other true false refl
    go true false = ap nat_abs (plus_same true a b) ∙ size_signed true (a + b)
    go false true = refl
    go false false = other false true refl

pub apart_scale : (s : Bool) (a : ℕ) (t : Bool) (b k : ℕ) → apart s a t b * k ≡ apart s (a * k) t (b * k)
apart_scale s a t b k = go (beq s t)
  where
    go : (x : Bool) → cond x (a - b + (b - a)) (a + b) * k ≡ cond x (a * k - b * k + (b * k - a * k)) (a * k + b * k)
    go true = add-mul (a - b) (b - a) k ∙ ap₂ ◌+◌ (sub_mul a b k) (sub_mul b a k)
    go false = add-mul a b k

-- ---- the part of ±a ± b that is above zero
abbrev pub middle : Bool → ℕ → Bool → ℕ → ℕ
middle false a false b = a + b
middle false a true b = a - b
middle true a false b = b - a
middle true a true b = 0

none : (n : ℕ) → at_least_zero (signed true n) ≡ 0
none zero = refl
none (suc n) = refl

part : (a b : ℕ) → at_least_zero (pos a +ℤ signed true b) ≡ a - b
part a b = pick (ltb a b) (ltb→lt a b) (nltb→le a b)
  where
    pick : (x : Bool) → (T x → a < b) → (T (not x) → b ≤ a) → at_least_zero (pos a +ℤ signed true b) ≡ a - b
    pick true k l = let h : a < b = k tt in ap at_least_zero ((difference a b).0 h) ∙ none (b - a) ∙ omega arith
    pick false k l = ap at_least_zero ((difference a b).1 (l tt))

pub middle_is : (s : Bool) (a : ℕ) (t : Bool) (b : ℕ) → at_least_zero (signed s a +ℤ signed t b) ≡ middle s a t b
middle_is false a false b = refl
middle_is false a true b = part a b
middle_is true a false b = ap at_least_zero (+ℤ_comm (signed true a) (pos b)) ∙ part b a
middle_is true a true b = ap at_least_zero (plus_same true a b) ∙ none (a + b)

pub middle_scale : (s : Bool) (a : ℕ) (t : Bool) (b k : ℕ) → middle s a t b * k ≡ middle s (a * k) t (b * k)
middle_scale false a false b k = add-mul a b k
middle_scale false a true b k = sub_mul a b k
middle_scale true a false b k = sub_mul b a k
middle_scale true a true b k = zero-mul k
