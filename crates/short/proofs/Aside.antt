-- A step aside. X - Y is rounded to v₊ - v₋; from there a step of n₊ - n₋ is taken, and rounded to c₊ - c₋. Where v is exact, or the step is large beside
-- what roundings lose, c lies beyond X - Y on the step's side. Assumes nothing.
use mathlib.Core.Path.{◌≡◌}
use Prim.Native.Nat.{ℕ, ◌+◌, ◌*◌, ◌≤◌, ◌<◌}
use native.Mathlib.Nat.{mul-le-mul_left, mul-le-mul_right, mul-pos, le_of_mul-le-mul_right, le_trans, le_refl, add-le-add}
use native.Mathlib.Omega.{arith}
use lib.Ieee.{Format}
use Rattle.numbers.proofs.Grid.{dist}
use Rattle.exact.specs.Signed.{Held, Nearest}
use Rattle.short.proofs.Closest.{stays_above, stays_below}

pub record Beyond (X Y n₊ n₋ c₊ c₋ : ℕ) : Type 0 where
  pub up : n₋ ≤ n₊ → X + c₋ ≤ Y + c₊
  pub down : n₊ ≤ n₋ → Y + c₊ ≤ X + c₋

-- v is exact, and a held count: the rounded step does not turn back over it
pub from_exact : (f : Format) (X Y v₊ v₋ n₊ n₋ c₊ c₋ : ℕ) → Held f v₊ v₋ → X + v₋ ≡ Y + v₊ → Nearest f (v₊ + n₊) (v₋ + n₋) c₊ c₋ → Beyond X Y n₊ n₋ c₊ c₋
from_exact f X Y v₊ v₋ n₊ n₋ c₊ c₋ H e N = record {
  up = λ l. omega (arith, e, stays_above f (v₊ + n₊) (v₋ + n₋) c₊ c₋ N v₊ v₋ H (omega arith));
  down = λ l. omega (arith, e, stays_below f (v₊ + n₊) (v₋ + n₋) c₊ c₋ N v₊ v₋ H (omega arith));
}

-- both roundings lose a part in P at most, and X - Y is a part in P of S, or eight
small : (P lost again w S n : ℕ) → 64 ≤ P → lost * P ≤ w → w * P ≤ 8 * S → again * P ≤ w + lost + n → 64 * S ≤ n * (P * P) → lost + again ≤ n
small P lost again w S n l a b c e =
    le_of_mul-le-mul_right {m = lost + again} {n = n} {k = P * P}
    (omega (
      arith,
      mul-le-mul_right P a,
      mul-le-mul_right P c,
      mul-le-mul_left w (let h : 1 ≤ P = omega arith in h),
      mul-le-mul_left (n * P) l,
    )) (mul-pos some some)
  where
    some : 0 < P
    some = omega arith

pub from_far : (P X Y v₊ v₋ n₊ n₋ c₊ c₋ S : ℕ) → 64 ≤ P → dist (X + v₋) (Y + v₊) * P ≤ dist X Y → dist X Y * P ≤ 8 * S
    → dist (v₊ + n₊ + c₋) (v₋ + n₋ + c₊) * P ≤ dist (v₊ + n₊) (v₋ + n₋) → 64 * S ≤ dist n₊ n₋ * (P * P) → Beyond X Y n₊ n₋ c₊ c₋
from_far P X Y v₊ v₋ n₊ n₋ c₊ c₋ S l a b c e =
    let s = small P (dist (X + v₋) (Y + v₊)) (dist (v₊ + n₊ + c₋) (v₋ + n₋ + c₊)) (dist X Y) S (dist n₊ n₋) l a b (le_trans c (three X Y v₊ v₋ n₊ n₋)) e in
    beyond X Y v₊ v₋ n₊ n₋ c₊ c₋ (dist (X + v₋) (Y + v₊)) (dist (v₊ + n₊ + c₋) (v₋ + n₋ + c₊)) (dist n₊ n₋)
    (off (X + v₋) (Y + v₊)) (off (v₊ + n₊ + c₋) (v₋ + n₋ + c₊)) (gap n₊ n₋) s
  where
    three : (X Y v₊ v₋ n₊ n₋ : ℕ) → dist (v₊ + n₊) (v₋ + n₋) ≤ dist X Y + dist (X + v₋) (Y + v₊) + dist n₊ n₋
    three X Y v₊ v₋ n₊ n₋ = le_trans (two v₊ v₋ n₊ n₋) (add-le-add (leg X Y v₊ v₋) (le_refl (dist n₊ n₋)))
      where
        two : (a b c d : ℕ) → dist (a + c) (b + d) ≤ dist a b + dist c d
        two a b c d = omega arith

        leg : (a b c d : ℕ) → dist c d ≤ dist a b + dist (a + d) (b + c)
        leg a b c d = omega arith

    off : (a b : ℕ) → (a ≤ b + dist a b) × (b ≤ a + dist a b)
    off a b = omega arith

    gap : (a b : ℕ) → (b ≤ a → a ≡ b + dist a b) × (a ≤ b → b ≡ a + dist a b)
    gap a b = omega arith

    beyond : (X Y v₊ v₋ n₊ n₋ c₊ c₋ i j n : ℕ) → (X + v₋ ≤ Y + v₊ + i) × (Y + v₊ ≤ X + v₋ + i)
        → (v₊ + n₊ + c₋ ≤ v₋ + n₋ + c₊ + j) × (v₋ + n₋ + c₊ ≤ v₊ + n₊ + c₋ + j)
        → (n₋ ≤ n₊ → n₊ ≡ n₋ + n) × (n₊ ≤ n₋ → n₋ ≡ n₊ + n) → i + j ≤ n → Beyond X Y n₊ n₋ c₊ c₋
    beyond X Y v₊ v₋ n₊ n₋ c₊ c₋ i j n h g o s = record { up = λ l. omega (arith, o.0 l); down = λ l. omega (arith, o.1 l) }
