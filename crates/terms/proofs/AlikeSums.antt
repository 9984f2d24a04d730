-- A number of two limbs may be rounded to odd before it is rounded to nearest, and so may a term of a sum, where the answer is rounded further up.
-- Assumes nothing.
use mathlib.Core.Path.{◌≡◌, sym, ap, ap₂, ◌∙◌, subst}
use mathlib.Core.Logic.{◌⊎◌, inl, inr}
use Prim.Native.Nat.{ℕ, suc, ◌+◌, ◌-◌, ◌*◌, ◌^◌, ◌≤◌, ◌<◌, compare, Ordering}
use native.Mathlib.Nat.{le_trans, le_of_eq, le_of_lt, mul_assoc, mul-one, mul-le-mul_right, add_comm, add-zero, le-add_right, eq-zero-or-pos, zero-mul}
use native.Mathlib.Omega.{arith}
use mathlib.Core.Bool.{Bool, true, false, beq}
use lib.Arith.{digits_lt}
use lib.Pow.{pow-add, pow_pos}
use lib.Ieee.{Format, prec, low, size, round, sum}
use lib.Ieee.Digits.{size-lt, size_reaches}
use Rattle.rounding.specs.Odd.{cut_to_odd}
use Rattle.numbers.proofs.Orders.{Cmp, cmp}
use Rattle.numbers.proofs.Signs.{either}
use Rattle.numbers.proofs.Sums.{sum_plus, sum_less, sum_more, sum_none}
use Rattle.rounding.proofs.Alike.{Alike}
use Rattle.terms.proofs.AlikeLaws.{swap, scaled, more, less, fewer, below, equal, round_alike}
use Rattle.numbers.proofs.Sizes.{size_exact, size_pos, size_shl}
use Rattle.rounding.proofs.RoundToOdd.{cut_alike, cut_exact}

-- ---- a number cut, and rounded
pub round_squeeze : (f : Format) (s : Bool) (w n e x : ℕ) → (n ≡ 0) ⊎ (n + e + 2 ≤ x + (size w + e - x - prec f))
    → round f s (cut_to_odd w n * 2 ^ (e + n)) (2 ^ (x + low f)) ≡ round f s (w * 2 ^ e) (2 ^ (x + low f))
round_squeeze f s w n e x (inl z) =
    ap (λ (y : ℕ). round f s y (2 ^ (x + low f)))
    (ap (λ (y : ℕ). cut_to_odd w y * 2 ^ (e + y)) z
    ∙ ap₂ (λ (y z : ℕ). y * 2 ^ z) (ap (λ (y : ℕ). cut_to_odd y 0) (sym (mul-one w)) ∙ cut_exact w 0) (add-zero e))
round_squeeze f s w n e x (inr l) = go (eq-zero-or-pos w)
  where
    up : (n e y : ℕ) → n + e + 2 ≤ y → suc n + e + 1 ≤ y
    up n e y h = omega arith

    go : (w ≡ 0) ⊎ (0 < w) → round f s (cut_to_odd w n * 2 ^ (e + n)) (2 ^ (x + low f)) ≡ round f s (w * 2 ^ e) (2 ^ (x + low f))
    go (inl z) =
        ap (λ (y : ℕ). round f s y (2 ^ (x + low f)))
        (ap (λ (y : ℕ). y * 2 ^ (e + n)) (ap (λ (y : ℕ). cut_to_odd y n) (z ∙ sym (zero-mul (2 ^ n))) ∙ cut_exact 0 n)
        ∙ zero-mul (2 ^ (e + n)) ∙ sym (ap (λ (y : ℕ). y * 2 ^ e) z ∙ zero-mul (2 ^ e)))
    go (inr h) =
        let a : Alike (2 ^ suc n * 2 ^ e) (w * 2 ^ e) (cut_to_odd w n * 2 ^ n * 2 ^ e) =
        scaled (2 ^ suc n) (2 ^ e) (pow_pos (suc n)) (pow_pos e) (cut_alike w n) in
        let b : Alike (2 ^ (suc n + e)) (w * 2 ^ e) (cut_to_odd w n * 2 ^ (e + n)) =
        subst (λ (y : ℕ). Alike y (w * 2 ^ e) (cut_to_odd w n * 2 ^ (e + n))) (sym (pow-add 2 (suc n) e))
        (subst (λ (y : ℕ). Alike (2 ^ suc n * 2 ^ e) (w * 2 ^ e) y) (mul_assoc (cut_to_odd w n) (2 ^ n) (2 ^ e)
        ∙ ap (λ (y : ℕ). cut_to_odd w n * y) (sym (pow-add 2 n e) ∙ ap (λ (y : ℕ). 2 ^ y) (add_comm n e))) a) in
        sym (round_alike f s (w * 2 ^ e) (cut_to_odd w n * 2 ^ (e + n)) x (suc n + e) b
        (subst (λ (y : ℕ). suc n + e + 1 ≤ x + (y - x - prec f)) (sym (size_shl w e h)) (up n e (x + (size w + e - x - prec f)) l)))

-- the digits of hi * 2 ^ k + lo
pub size_wide : (hi lo k : ℕ) → 0 < hi → lo < 2 ^ k → size (hi * 2 ^ k + lo) ≡ size hi + k
size_wide hi lo k h l =
    let z = size hi in
    let p = last z k (size_pos hi h) in
    size_exact (z - 1 + k) (hi * 2 ^ k + lo)
    (le_trans (le_of_eq (pow-add 2 (z - 1) k)) (le_trans (mul-le-mul_right (2 ^ k) (size_reaches hi (z - 1) p.0)) (le-add_right (hi * 2 ^ k) lo)))
    (subst (λ (y : ℕ). hi * 2 ^ k + lo < y) (sym (pow-add 2 z k) ∙ ap (λ (y : ℕ). 2 ^ y) (sym p.1)) (digits_lt (size-lt hi) l))
    ∙ p.1
  where
    last : (z y : ℕ) → 0 < z → (z - 1 < z) × (suc (z - 1 + y) ≡ z + y)
    last z y h = omega arith

-- ---- a multiple of 2 ^ v and a number, in whose place stands one that is alike, where the result is rounded at a digit above v
module _ (f : Format) (s : Bool) (x : ℕ) (t : Bool) (n m X v : ℕ) (k : Alike (2 ^ v) n m)
    (plus : v + 1 ≤ X + (size (x * 2 ^ v + n) - X - prec f))
    (under : n < x * 2 ^ v → v + 1 ≤ X + (size (x * 2 ^ v - n) - X - prec f))
    (over : x * 2 ^ v < n → v + 1 ≤ X + (size (n - x * 2 ^ v) - X - prec f))
  where
    pub sum_alike : sum f s (x * 2 ^ v) t n (2 ^ (X + low f)) ≡ sum f s (x * 2 ^ v) t m (2 ^ (X + low f))
    sum_alike = go (either (beq s t))
      where
        go : (beq s t ≡ true) ⊎ (beq s t ≡ false) → sum f s (x * 2 ^ v) t n (2 ^ (X + low f)) ≡ sum f s (x * 2 ^ v) t m (2 ^ (X + low f))
        go (inl e) =
            sum_plus f s (x * 2 ^ v) t n (2 ^ (X + low f)) e
            ∙ round_alike f s (x * 2 ^ v + n) (x * 2 ^ v + m) X v (more (2 ^ v) x (pow_pos v) k) plus
            ∙ sym (sum_plus f s (x * 2 ^ v) t m (2 ^ (X + low f)) e)
        go (inr e) = by (compare (x * 2 ^ v) n) (cmp (x * 2 ^ v) n)
          where
            above : x * 2 ^ v < n → x * 2 ^ v < m
            above h = pick (compare (x * 2 ^ v) m) (cmp (x * 2 ^ v) m)
              where
                no : (a n : ℕ) → a < n → n ≡ a → ⊥
                no a n h e = omega arith

                no2 : (a n : ℕ) → a < n → n < a → ⊥
                no2 a n h e = omega arith

                pick : (o : Ordering) → Cmp o (x * 2 ^ v) m → x * 2 ^ v < m
                pick Ordering.lt l = l
                pick Ordering.eq l = absurd (no (x * 2 ^ v) n h (equal (2 ^ v) x (pow_pos v) (swap k) (sym l)))
                pick Ordering.gt l = absurd (no2 (x * 2 ^ v) n h (below (2 ^ v) x (pow_pos v) (swap k) l))

            by : (o : Ordering) → Cmp o (x * 2 ^ v) n → sum f s (x * 2 ^ v) t n (2 ^ (X + low f)) ≡ sum f s (x * 2 ^ v) t m (2 ^ (X + low f))
            by Ordering.lt h =
                sum_less f s (x * 2 ^ v) t n (2 ^ (X + low f)) e h
                ∙ round_alike f t (n - x * 2 ^ v) (m - x * 2 ^ v) X v (fewer (2 ^ v) x (pow_pos v) (le_of_lt h) k) (over h)
                ∙ sym (sum_less f s (x * 2 ^ v) t m (2 ^ (X + low f)) e (above h))
            by Ordering.eq h =
                sum_none f s (x * 2 ^ v) t n (2 ^ (X + low f)) e h ∙ sym
                (sum_none f s (x * 2 ^ v) t m (2 ^ (X + low f)) e (sym (equal (2 ^ v) x (pow_pos v) k (sym h))))
            by Ordering.gt h =
                sum_more f s (x * 2 ^ v) t n (2 ^ (X + low f)) e h
                ∙ round_alike f s (x * 2 ^ v - n) (x * 2 ^ v - m) X v (less (2 ^ v) x (pow_pos v) (le_of_lt h) k) (under h)
                ∙ sym (sum_more f s (x * 2 ^ v) t m (2 ^ (X + low f)) e (below (2 ^ v) x (pow_pos v) k h))
