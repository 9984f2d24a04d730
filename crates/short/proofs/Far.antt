-- Where what a sum lacks is not held, the sum is large beside it. A sum of two held counts that is no larger than either is held (Sterbenz). So one that is
-- not held is no smaller than half of the first, and the errors of the first and of the sum are both small beside it. Assumes nothing.
use mathlib.Core.Path.{◌≡◌, subst}
use mathlib.Core.Logic.{◌⊎◌, inl, inr}
use Prim.Native.Nat.{ℕ, suc, ◌+◌, ◌-◌, ◌*◌, ◌^◌, ◌≤◌, ◌<◌}
use native.Mathlib.Nat.{add_comm, mul-le-mul_left, mul-le-mul_right, le_of_mul-le-mul_right, le_trans, lt_of_le_of_lt}
use native.Mathlib.Decide.{dec_le}
use native.Mathlib.Omega.{arith}
use lib.Dec.{lit≤}
use lib.Pow.{pow_pos}
use lib.Ieee.{Format, binary32, binary64, prec, emax, low}
use Rattle.numbers.proofs.Grid.{dist}
use Rattle.numbers.proofs.Sums.{sub_mul}
use Rattle.exact.specs.Signed.{Held, Within, Nearest}
use Rattle.exact.proofs.SignedLaws.{again_held}
use Rattle.exact.proofs.Nearest.{relative}
use Rattle.short.proofs.Closest.{lowered}

-- ---- a difference that is so many times c
parts : (a b h c : ℕ) → (a ≡ b + h * c) ⊎ (b ≡ a + h * c) → (i : ℕ) × (j : ℕ) × (a + j * c ≡ b + i * c)
parts a b h c (inl e) = (h, 0, omega arith)
parts a b h c (inr e) = (0, h, omega arith)

multiple : (a b i j c : ℕ) → a + j * c ≡ b + i * c → (h : ℕ) × ((a ≡ b + h * c) ⊎ (b ≡ a + h * c))
multiple a b i j c e = elim (dec_le j i) [
  | yes l ↦ (i - j, inl (omega (arith, sub_mul i j c, mul-le-mul_right c l)))
  | no l ↦ (j - i, inr (omega (arith, sub_mul j i c, mul-le-mul_right {m = i} {n = j} c (omega arith))))
]

size_is : (a b n : ℕ) → (a ≡ b + n) ⊎ (b ≡ a + n) → dist a b ≡ n
size_is a b n (inl e) = omega arith
size_is a b n (inr e) = omega arith

triangle : (a b c d : ℕ) → dist a b ≤ dist (a + c) (b + d) + dist c d
triangle a b c d = omega arith

-- ---- the sum of a - b and c - d, a - b having the lower place
module _ (f : Format) (a b c d : ℕ) (A : Held f a b) (C : Held f c d) where
  lower_held : A.zeros ≤ C.zeros → dist (a + c) (b + d) ≤ dist a b → Held f (a + c) (b + d)
  lower_held l h =
      let K = 2 ^ A.zeros in
      let H = C.head * 2 ^ (C.zeros - A.zeros) in
      let p = parts a b A.head K A.gap in
      let q = parts c d H K (subst (λ (n : ℕ). (c ≡ d + n) ⊎ (d ≡ c + n)) (lowered C.head A.zeros C.zeros l) C.gap) in
      let m = multiple (a + c) (b + d) (p.0 + q.0) (p.1 + q.1) K (omega (arith, p.2, q.2)) in
      let le : m.0 * K ≤ A.head * K = omega (arith, size_is (a + c) (b + d) (m.0 * K) m.1, size_is a b (A.head * K) A.gap, h) in
      record {
        head = m.0;
        zeros = A.zeros;
        gap = m.1;
        few = le_trans (le_of_mul-le-mul_right le (pow_pos A.zeros)) A.few;
        under = lt_of_le_of_lt le A.under;
      }

module _ (f : Format) (a b c d : ℕ) (A : Held f a b) (C : Held f c d) (no_sum : Held f (a + c) (b + d) → ⊥) where
  first_small : dist a b ≤ 2 * dist (a + c) (b + d)
  first_small = elim (dec_le A.zeros C.zeros) [
    | yes l ↦ elim (dec_le (dist (a + c) (b + d)) (dist a b)) [ yes h ↦ absurd (no_sum (lower_held f a b c d A C l h)) | no h ↦ omega arith ]
    | no l ↦ elim (dec_le (dist (a + c) (b + d)) (dist c d)) [
      | yes h ↦ absurd (no_sum (again_held (lower_held f c d a b C A (omega arith) (rw (add_comm c a, add_comm d b) h)) (omega arith)))
      | no h ↦ half (dist a b) (dist (a + c) (b + d)) (dist c d) h (triangle a b c d)
    ]
  ]
    where
      half : (x r y : ℕ) → ¬ (r ≤ y) → x ≤ r + y → x ≤ 2 * r
      half x r y h l = omega arith

pub enough : (f : Format) → 64 ≤ 2 ^ (prec f - 1)
enough binary32 = lit≤ tt
enough binary64 = lit≤ tt

-- ---- g is n rounded; s₊ - s₋ is g and z₊ - z₋ together, rounded
-- what is lost of both is a small part of s, and n is not much more than s
pub record Far (f : Format) (n lost s : ℕ) : Type 0 where
  pub rest : lost * 2 ^ (prec f - 1) ≤ 8 * s
  pub product : n ≤ 8 * s

module _ (f : Format) (M : ℕ) (room : M < low f + suc (emax f)) (n g z₊ z₋ s₊ s₋ : ℕ) (within_n : Within (2 ^ M) n 0 0 0) (near_n : Nearest f n 0 g 0)
    (within_s : Within (2 ^ M) (g + z₊) (0 + z₋) 0 0) (near_s : Nearest f (g + z₊) (0 + z₋) s₊ s₋) (held_g : Held f g 0) (held_z : Held f z₊ z₋)
    (no_sum : Held f (g + z₊) (0 + z₋) → ⊥) where
  pub far : Far f n (dist (g + z₊ + s₋ + n) (0 + z₋ + s₊ + g)) (dist s₊ s₋)
  far =
      let r = last (2 ^ (prec f - 1)) (dist (g + z₊ + s₋) (0 + z₋ + s₊)) (dist (n + 0) (0 + g)) n g (dist (g + z₊) (0 + z₋)) (dist s₊ s₋)
      (dist (g + z₊ + s₋ + n) (0 + z₋ + s₊ + g)) (enough f) (relative f M room (g + z₊) (0 + z₋) s₊ s₋ within_s near_s)
      (subst (λ (k : ℕ). dist (n + 0) (0 + g) * 2 ^ (prec f - 1) ≤ k) (omega arith) (relative f M room n 0 g 0 within_n near_n))
      (omega arith) (omega (arith, first_small f g 0 z₊ z₋ held_g held_z no_sum)) (whole (g + z₊) (0 + z₋) s₊ s₋) (errors (g + z₊ + s₋) (0 + z₋ + s₊) n g) in
      record { rest = r.0; product = r.1 }
    where
      whole : (a b c d : ℕ) → dist a b ≤ dist c d + dist (a + d) (b + c)
      whole a b c d = omega arith

      errors : (a b n g : ℕ) → dist (a + n) (b + g) ≤ dist a b + dist (n + 0) (0 + g)
      errors a b n g = omega arith

      last : (P t e n g r s m : ℕ) → 64 ≤ P → t * P ≤ r → e * P ≤ n → n ≤ g + e → g ≤ 2 * r → r ≤ s + t → m ≤ t + e → (m * P ≤ 8 * s) × (n ≤ 8 * s)
      last P t e n g r s m l a b c d x y =
          let p = mul-le-mul_left t l in
          let q = mul-le-mul_left e l in
          omega (arith, p, q, mul-le-mul_right P y)
