-- The root of a format gives the value nearest to the exact root, a tie the even one: the middle between two values is compared by its square. Assumes nothing.
use mathlib.Core.Path.{◌≡◌, refl, sym, ap, ◌∙◌, subst}
use mathlib.Core.Logic.{◌⊎◌, inl, inr}
use Prim.Native.Nat.{ℕ, zero, suc, ◌+◌, ◌-◌, ◌*◌, ◌/◌, ◌%◌, ◌^◌, ◌≤◌, ◌<◌, compare, Ordering}
use native.Mathlib.Nat.{le_trans, le_of_eq, le_of_lt, lt_of_lt_of_le, lt_of_le_of_lt, lt_of_not-le, lt_irrefl, eq-or-lt_of_le, mul_assoc, mul_comm}
use native.Mathlib.Nat.{mul_left_comm, mul_right_comm, mul-pos, mul-le-mul, mul-le-mul_right, mul-lt-mul_of_pos_right, suc-mul, add-mul, one-mul, add-zero}
use native.Mathlib.Nat.{le-div_iff_mul-le, div-lt_iff_lt-mul, div-div-eq-div-mul, zero-lt-suc}
use native.Mathlib.Numerals.{add-one}
use native.Mathlib.Omega.{arith}
use lib.Pow.{pow-add, pow_pos, pow_mono}
use lib.Ieee.{size, nearest}
use lib.Ieee.Digits.{size-lt, size_reaches}
use Rattle.numbers.specs.Fused.{whole_root}
use Rattle.numbers.proofs.Orders.{Cmp, cmp}
use Rattle.numbers.proofs.Roots.{IsRoot, root_least, root_most, twice_square, whole_root_root, four_pow, four_square, four_pos}
use Rattle.numbers.proofs.Grid.{Short, beside}

-- ---- squares
pub square_le : (c y z : ℕ) → y ≤ z → y * y * c ≤ z * z * c
square_le c y z h = mul-le-mul_right c (mul-le-mul h h)

pub square_lt : (c y z : ℕ) → 0 < c → y < z → y * y * c < z * z * c
square_lt c y z C h = mul-lt-mul_of_pos_right (lt_of_not-le (λ (g : z * z ≤ y * y). lt_irrefl (y * y)
    (lt_of_lt_of_le (grow y) (le_trans (mul-le-mul h h) g)))) C
  where
    grow : (y : ℕ) → y * y < suc y * suc y
    grow y = lt_of_lt_of_le (more (y * y) y) (le_of_eq (sym (suc-mul y (suc y) ∙ ap (λ (w : ℕ). w + suc y) (mul_comm y (suc y) ∙ suc-mul y y))))
      where
        more : (p y : ℕ) → p < p + y + suc y
        more p y = omega arith

-- ---- N is four times the square of the exact root, over c: it lies from l to l + g, and x does not lie between these. W, of which Q is the significand,
-- is on the same side of the middle between W and x as the exact root; and where x is so too, it is W, or Q is even.
pub record Side (N c x W Q : ℕ) : Type 0 where
  pub above : W < x → N ≤ (W + x) * (W + x) * c
  pub below' : x < W → (W + x) * (W + x) * c ≤ N
  pub same_or_even : (W < x → (W + x) * (W + x) * c ≤ N) → (x < W → N ≤ (W + x) * (W + x) * c) → (x ≡ W) ⊎ (Q % 2 ≡ 0)

module _ (N c l g x : ℕ) (C : 0 < c) (G : 0 < g) (lo : (l + l) * (l + l) * c ≤ N) (hi : N < (l + g + (l + g)) * (l + g + (l + g)) * c)
    (out : (x ≤ l) ⊎ (l + g ≤ x)) where
  no : (a b : ℕ) → a < b → b ≤ a → ⊥
  no a b h k = omega arith

  low_above : N ≤ (l + l + g) * (l + l + g) * c → l < x → N ≤ (l + x) * (l + x) * c
  low_above h k = go out
    where
      go : (x ≤ l) ⊎ (l + g ≤ x) → N ≤ (l + x) * (l + x) * c
      go (inl a) = absurd (no l x k a)
      go (inr a) = le_trans h (square_le c (l + l + g) (l + x) (omega arith))

  low_below : x < l → (l + x) * (l + x) * c ≤ N
  low_below h = le_trans (square_le c (l + x) (l + l) (omega arith)) lo

  high_above : l + g < x → N ≤ (l + g + x) * (l + g + x) * c
  high_above h = le_trans (le_of_lt hi) (square_le c (l + g + (l + g)) (l + g + x) (omega arith))

  high_below : (l + l + g) * (l + l + g) * c ≤ N → x < l + g → (l + g + x) * (l + g + x) * c ≤ N
  high_below h k = go out
    where
      go : (x ≤ l) ⊎ (l + g ≤ x) → (l + g + x) * (l + g + x) * c ≤ N
      go (inl a) = le_trans (square_le c (l + g + x) (l + l + g) (omega arith)) h
      go (inr a) = absurd (no x (l + g) k a)

  low_same : N < (l + l + g) * (l + l + g) * c → (l < x → (l + x) * (l + x) * c ≤ N) → (x < l → N ≤ (l + x) * (l + x) * c) → x ≡ l
  low_same h a b = go out
    where
      go : (x ≤ l) ⊎ (l + g ≤ x) → x ≡ l
      go (inl k) = pick (eq-or-lt_of_le k)
        where
          pick : (x ≡ l) ⊎ (x < l) → x ≡ l
          pick (inl e) = e
          pick (inr m) = absurd (no ((l + x) * (l + x) * c) N (lt_of_lt_of_le (square_lt c (l + x) (l + l) C (omega arith)) lo) (b m))
      go (inr k) = absurd (no N ((l + x) * (l + x) * c) (lt_of_lt_of_le h (square_le c (l + l + g) (l + x) (omega arith))) (a (omega arith)))

  high_same : (l + l + g) * (l + l + g) * c < N → (l + g < x → (l + g + x) * (l + g + x) * c ≤ N) → (x < l + g → N ≤ (l + g + x) * (l + g + x) * c) → x ≡ l + g
  high_same h a b = go out
    where
      go : (x ≤ l) ⊎ (l + g ≤ x) → x ≡ l + g
      go (inl k) = absurd (no ((l + g + x) * (l + g + x) * c) N (lt_of_le_of_lt (square_le c (l + g + x) (l + l + g) (omega arith)) h) (b (omega arith)))
      go (inr k) = pick (eq-or-lt_of_le k)
        where
          pick : (l + g ≡ x) ⊎ (l + g < x) → x ≡ l + g
          pick (inl e) = sym e
          pick (inr m) = absurd (no N ((l + g + x) * (l + g + x) * c) (lt_of_lt_of_le hi (square_le c (l + g + (l + g)) (l + g + x) (omega arith))) (a m))

  -- with l the multiple q of g
  module _ (q : ℕ) (is : q * g ≡ l) where
    tie : (b : ℕ) → q % 2 ≡ b → N ≡ (l + l + g) * (l + l + g) * c → Side N c x ((q + b) * g) (q + b)
    tie zero e h =
        subst (λ (y : ℕ). Side N c x y (q + 0)) (sym (ap (λ (y : ℕ). y * g) (add-zero q) ∙ is))
        (record { above = low_above (le_of_eq h); below' = low_below; same_or_even = λ a b. inr (omega arith) })
    tie (suc zero) e h =
        subst (λ (y : ℕ). Side N c x y (q + 1)) (sym (ap (λ (y : ℕ). y * g) (add-one q) ∙ suc-mul q g ∙ ap (λ (y : ℕ). y + g) is))
        (record { above = high_above; below' = high_below (le_of_eq (sym h)); same_or_even = λ a b. inr (omega arith) })
    tie (suc (suc b)) e h = absurd (omega arith)

    side : (o : Ordering) → Cmp o N ((l + l + g) * (l + l + g) * c) → Side N c x (nearest q o * g) (nearest q o)
    side Ordering.lt h =
        subst (λ (y : ℕ). Side N c x y q) (sym is) (record { above = low_above (le_of_lt h); below' = low_below; same_or_even = λ a b. inl (low_same h a b) })
    side Ordering.eq h = tie (q % 2) refl h
    side Ordering.gt h =
        subst (λ (y : ℕ). Side N c x y (suc q)) (sym (suc-mul q g ∙ ap (λ (y : ℕ). y + g) is))
        (record { above = high_above; below' = high_below (le_of_lt h); same_or_even = λ a b. inl (high_same h a b) })

-- ---- the root of n / c: how many of its digits a format of p digits drops, the others, and what is kept
abbrev pub dropped : ℕ → ℕ → ℕ → ℕ
dropped p n c = (size (n / c) + 1) / 2 - p

abbrev pub leading : ℕ → ℕ → ℕ → ℕ
leading p n c = whole_root p (n / (c * 4 ^ dropped p n c))

abbrev pub kept_root : ℕ → ℕ → ℕ → ℕ
kept_root p n c = nearest (leading p n c) (compare (n * 4) ((2 * leading p n c + 1) * (2 * leading p n c + 1) * (c * 4 ^ dropped p n c)))

module _ (p n c : ℕ) (P : 0 < p) (C : 0 < c) where
  few_digits : n / (c * 4 ^ dropped p n c) < 4 ^ p
  few_digits =
      let k = dropped p n c in
      subst (λ (y : ℕ). y < 4 ^ p) (div-div-eq-div-mul n c (4 ^ k))
      ((div-lt_iff_lt-mul (four_pos k)).1 (lt_of_lt_of_le (size-lt (n / c))
      (le_trans (pow_mono (room (size (n / c)))) (le_of_eq (sym (four_pow (p + k)) ∙ pow-add 4 p k)))))
    where
      room : (z : ℕ) → z ≤ 2 * (p + ((z + 1) / 2 - p))
      room z = omega arith

  whole : IsRoot (n / (c * 4 ^ dropped p n c)) (leading p n c)
  whole = whole_root_root p (n / (c * 4 ^ dropped p n c)) few_digits

  pub root_few : leading p n c < 2 ^ p
  root_few = root_most (n / (c * 4 ^ dropped p n c)) (leading p n c) (2 ^ p) whole (lt_of_lt_of_le few_digits (le_of_eq (four_square p)))

  pub root_full : 0 < dropped p n c → 2 ^ (p - 1) ≤ leading p n c
  root_full h =
      let k = dropped p n c in
      root_least (n / (c * 4 ^ k)) (leading p n c) (2 ^ (p - 1)) whole
      (subst (λ (y : ℕ). 2 ^ (p - 1) * 2 ^ (p - 1) ≤ y) (div-div-eq-div-mul n c (4 ^ k))
      ((le-div_iff_mul-le (four_pos k)).1
      (le_trans (le_of_eq (ap (λ (y : ℕ). y * 4 ^ k) (sym (four_square (p - 1))) ∙ sym (pow-add 4 (p - 1) k) ∙ four_pow (p - 1 + k)))
      (size_reaches (n / c) (2 * (p - 1 + k)) (in_use (size (n / c)) h)))))
    where
      in_use : (z : ℕ) → 0 < (z + 1) / 2 - p → 2 * (p - 1 + ((z + 1) / 2 - p)) < z
      in_use z h = omega arith

  -- times t, a number of units
  times : (t g : ℕ) → t * g * (t * g) * c ≡ t * t * (c * (g * g))
  times t g = simp (mul_assoc, mul_comm, mul_left_comm)

  four_times : (s G : ℕ) → 2 * s * (2 * s) * G ≡ s * s * G * 4
  four_times s G = ap (λ (y : ℕ). y * G) (twice_square s) ∙ mul_right_comm (s * s) 4 G

  pub root_side : (x : ℕ) → Short p x → Side (n * 4) c x (kept_root p n c * 2 ^ dropped p n c) (kept_root p n c)
  root_side x S =
      let k = dropped p n c in
      let q = leading p n c in
      let g = 2 ^ k in
      let l = q * g in
      let U : 0 < c * 4 ^ k = mul-pos C (four_pos k) in
      let unit : c * (g * g) ≡ c * 4 ^ k = ap (λ (y : ℕ). c * y) (sym (four_square k)) in
      let twice_low : l + l ≡ 2 * q * g = dbl l ∙ sym (mul_assoc 2 q g) in
      let twice_mid : l + l + g ≡ (2 * q + 1) * g = ap (λ (y : ℕ). y + g) twice_low ∙ sym (add-mul (2 * q) 1 g ∙ ap (λ (y : ℕ). 2 * q * g + y) (one-mul g)) in
      let twice_high : l + g + (l + g) ≡ 2 * suc q * g = dbl (l + g) ∙ ap (λ (y : ℕ). 2 * y) (sym (suc-mul q g)) ∙ sym (mul_assoc 2 (suc q) g) in
      let lo : (l + l) * (l + l) * c ≤ n * 4 =
      le_trans (le_of_eq (ap (λ (y : ℕ). y * y * c) twice_low ∙ times (2 * q) g ∙ ap (λ (y : ℕ). 2 * q * (2 * q) * y) unit ∙ four_times q (c * 4 ^ k)))
      (mul-le-mul_right 4 ((le-div_iff_mul-le U).0 whole.under)) in
      let hi : n * 4 < (l + g + (l + g)) * (l + g + (l + g)) * c =
      lt_of_lt_of_le (mul-lt-mul_of_pos_right ((div-lt_iff_lt-mul U).0 whole.over) (zero-lt-suc 3))
      (le_of_eq (sym (ap (λ (y : ℕ). y * y * c) twice_high ∙ times (2 * suc q) g ∙ ap (λ (y : ℕ). 2 * suc q * (2 * suc q) * y) unit
      ∙ four_times (suc q) (c * 4 ^ k)))) in
      let mid : (2 * q + 1) * (2 * q + 1) * (c * 4 ^ k) ≡ (l + l + g) * (l + l + g) * c = sym
      (ap (λ (y : ℕ). y * y * c) twice_mid ∙ times (2 * q + 1) g ∙ ap (λ (y : ℕ). (2 * q + 1) * (2 * q + 1) * y) unit) in
      let o = compare (n * 4) ((2 * q + 1) * (2 * q + 1) * (c * 4 ^ k)) in
      side (n * 4) c l g x C (pow_pos k) lo hi (out q g (beside p x q k P S root_full)) q refl o
      (subst (λ (y : ℕ). Cmp o (n * 4) y) mid (cmp (n * 4) ((2 * q + 1) * (2 * q + 1) * (c * 4 ^ k))))
    where
      dbl : (a : ℕ) → a + a ≡ 2 * a
      dbl a = omega arith

      out : (q g : ℕ) → (x ≤ q * g) ⊎ (suc q * g ≤ x) → (x ≤ q * g) ⊎ (q * g + g ≤ x)
      out q g (inl h) = inl h
      out q g (inr h) = inr (le_trans (le_of_eq (sym (suc-mul q g))) h)
