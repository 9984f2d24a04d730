-- What the code's tests of a float say, and an ordinary number's fields. Assumes nothing.
use mathlib.Core.Path.{◌≡◌, refl, sym, ap, ◌∙◌, subst}
use mathlib.Core.Logic.{◌⊎◌, inl, inr}
use Prim.Native.Nat.{ℕ, suc, ◌+◌, ◌*◌, ◌/◌, ◌%◌, ◌^◌, ◌<◌}
use native.Mathlib.Nat.{mul-one, zero-mul, mul-pos, eq-zero-or-pos, zero-lt-suc}
use native.Mathlib.Omega.{arith}
use mathlib.Core.Bool.{Bool, true, false, not, cond, ◌&&◌, ◌||◌, beq}
use borrow.Author.Tests.{eq-eqb, ne_eqb, eqb-true, eqb-false}
use lib.IntN.{pos}
use lib.Dec.{T, leb, eqb}
use lib.Ieee.{Float, nan, inf, fin, Format, binary64, prec, low, up, down, odd, eq, fits, is_nan, hid, ones, top}
use lib.Ieee.{of_fields, of_bits, to_bits}
use lib.Ieee.Fits.{up_pos}
use lib.Ieee.Bits.{of_bits-to_bits}
use lib.Ieee.Exact.{HasValue, odd_sign}
use Rattle.operands.specs.Operands.{is_zero, ordinary}

-- ---- the tests
pub zero_is : of_bits binary64 0 ≡ fin false 0 (pos 0)
unfolding of_bits
zero_is = refl

pub nan_is : of_bits binary64 0x7ff8_0000_0000_0000 ≡ nan
unfolding of_bits
nan_is = refl

zero_test : (s : Bool) (a b : ℕ) → b ≡ 0 → (eqb a b && (beq s false || eqb a 0)) ≡ eqb a 0
zero_test s a b h = ap (λ (y : ℕ). eqb a y && (beq s false || eqb a 0)) h ∙ go (eqb a 0) (beq s false)
  where
    go : (x y : Bool) → (x && (y || x)) ≡ x
    go true true = refl
    go true false = refl
    go false y = refl

pub zero_test_is : (x : Float) → eq x (fin false 0 (pos 0)) ≡ is_zero x
unfolding eq
zero_test_is nan = refl
zero_test_is (inf s) = refl
zero_test_is (fin s m e) = zero_test s (m * up e * 1) (0 * down e) (zero-mul (down e)) ∙ go (eq-zero-or-pos m)
  where
    no : (a : ℕ) → 0 < a → a ≡ 0 → ⊥
    no a h e = omega arith

    go : (m ≡ 0) ⊎ (0 < m) → eqb (m * up e * 1) 0 ≡ eqb m 0
    go (inl h) = eq-eqb (m * up e * 1) 0 (mul-one (m * up e) ∙ ap (λ (y : ℕ). y * up e) h ∙ zero-mul (up e)) ∙ sym (eq-eqb m 0 h)
    go (inr h) = ne_eqb (m * up e * 1) 0 (no (m * up e * 1) (mul-pos (mul-pos h (up_pos e)) (zero-lt-suc 0))) ∙ sym (ne_eqb m 0 (no m h))

pub ordinary_number : (x : Float) → T (ordinary x) → T (not (is_nan x))
unfolding is_nan
ordinary_number nan h = h
ordinary_number (inf s) h = tt
ordinary_number (fin s m e) h = tt

pub value_pos : (x : Float) (s : Bool) (a c : ℕ) → 0 < c → T (ordinary x) → HasValue x s a c → 0 < a
value_pos nan s a c C t h = absurd t
value_pos (inf r) s a c C t h = absurd t
value_pos (fin r m e) s a c C t h = go (eq-zero-or-pos a) (eq-zero-or-pos m)
  where
    no : (p q : ℕ) → 0 < p → p ≡ q → q ≡ 0 → ⊥
    no p q x y z = omega arith

    go : (a ≡ 0) ⊎ (0 < a) → (m ≡ 0) ⊎ (0 < m) → 0 < a
    go (inr l) y = l
    go (inl z) (inl y) = absurd (subst (λ (b : Bool). T (not b)) (eq-eqb m 0 y) t)
    go (inl z) (inr y) = absurd (no (m * up e * c) (a * down e) (mul-pos (mul-pos y (up_pos e)) C) h.1 (ap (λ (w : ℕ). w * down e) z ∙ zero-mul (down e)))

-- ---- the fields of a number's bits
fields_are : (f : Format) (x : Float) → T (fits f x) → of_fields f (leb (top f) (to_bits f x)) (to_bits f x % top f / hid f) (to_bits f x % hid f) ≡ x
unfolding of_bits
fields_are f x h = of_bits-to_bits f x h

low_field : (f : Format) (x : Float) (s : Bool) (k t : ℕ) → of_fields f s k t ≡ x → k ≡ 0 → HasValue x s (t * 2 ^ 0) (2 ^ low f)
unfolding of_fields
low_field f x s k t e z = subst (λ (v : Float). HasValue v s (t * 2 ^ 0) (2 ^ low f)) (ap (λ (y : ℕ). of_fields f s y t) (sym z) ∙ e)
    (odd_sign (prec f) s t 0 (low f))

high_field : (f : Format) (x : Float) (s : Bool) (k t : ℕ) → of_fields f s (suc k) t ≡ x → T (ordinary x)
    → (suc k ≡ ones f → ⊥) × HasValue x s ((hid f + t) * 2 ^ k) (2 ^ low f)
unfolding of_fields
high_field f x s k t e o = go (eqb (suc k) (ones f)) refl
  where
    special : (b : Bool) → T (ordinary (cond b (inf s) nan)) → ⊥
    special true h = h
    special false h = h

    go : (b : Bool) → eqb (suc k) (ones f) ≡ b → (suc k ≡ ones f → ⊥) × HasValue x s ((hid f + t) * 2 ^ k) (2 ^ low f)
    go true h =
        absurd (special (eqb t 0) (subst (λ (v : Float). T (ordinary v))
        (sym e ∙ ap (λ (b : Bool). cond b (cond (eqb t 0) (inf s) nan) (odd (prec f) s (hid f + t) k (low f))) h) o))
    go false h = (
      eqb-false (suc k) (ones f) h,
      subst (λ (v : Float). HasValue v s ((hid f + t) * 2 ^ k) (2 ^ low f))
          (sym (ap (λ (b : Bool). cond b (cond (eqb t 0) (inf s) nan) (odd (prec f) s (hid f + t) k (low f))) h) ∙ e)
          (odd_sign (prec f) s (hid f + t) k (low f)),
    )

pub low_fields : (f : Format) (x : Float) → T (fits f x) → to_bits f x % top f / hid f ≡ 0
    → HasValue x (leb (top f) (to_bits f x)) (to_bits f x % hid f * 2 ^ 0) (2 ^ low f)
low_fields f x h z = low_field f x (leb (top f) (to_bits f x)) (to_bits f x % top f / hid f) (to_bits f x % hid f) (fields_are f x h) z

pub high_fields : (f : Format) (x : Float) → T (fits f x) → T (ordinary x) → (k : ℕ) → to_bits f x % top f / hid f ≡ suc k
    → (suc k ≡ ones f → ⊥) × HasValue x (leb (top f) (to_bits f x)) ((hid f + to_bits f x % hid f) * 2 ^ k) (2 ^ low f)
high_fields f x h o k z = high_field f x (leb (top f) (to_bits f x)) k (to_bits f x % hid f)
    (ap (λ (y : ℕ). of_fields f (leb (top f) (to_bits f x)) y (to_bits f x % hid f)) (sym z) ∙ fields_are f x h) o

-- ---- a significand, by the test whether it is 0
pub none : (m : ℕ) → T (not (not (eqb m 0))) → m ≡ 0
none m t = go (eqb m 0) refl t
  where
    go : (b : Bool) → eqb m 0 ≡ b → T (not (not b)) → m ≡ 0
    go true h u = eqb-true m 0 h
    go false h u = absurd u

pub some : (m : ℕ) → T (not (eqb m 0)) → 0 < m
some m t = go (eq-zero-or-pos m)
  where
    go : (m ≡ 0) ⊎ (0 < m) → 0 < m
    go (inl e) = absurd (subst (λ (b : Bool). T (not b)) (eq-eqb m 0 e) t)
    go (inr l) = l

-- ---- what a call answered, by the test that follows it
pub yes : {r b : Bool} → r ≡ b → r ≡ true → T b
yes e h = subst T (sym h ∙ e) tt

pub no : {r b : Bool} → r ≡ b → r ≡ false → T (not b)
no e h = subst (λ (x : Bool). T (not x)) (sym h ∙ e) tt
