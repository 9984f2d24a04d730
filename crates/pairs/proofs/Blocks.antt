-- The blocks of 2 * 2^t places, one after the other: the lower half has target bit 0 and the upper half 1. By division: the block's number is the quotient.
-- Assumes nothing.
use Prim.Native.Nat.{ℕ, suc, ◌+◌, ◌-◌, ◌*◌, ◌/◌, ◌^◌, ◌≤◌, ◌<◌}
use mathlib.Core.Path.{◌≡◌, sym, ap, ◌∙◌}
use native.Mathlib.Nat.{pow-suc, mul_comm, mul_assoc, one-mul, zero-mul, add-mul, lt_of_mul-lt-mul_right, mul-le-mul_right}
use native.Mathlib.Omega.{arith}
use lib.Arith.{digits_div}
use lib.Pow.{pow-add, pow_pos}
use Rattle.book.specs.State.{bit}

-- where a block starts
pub record Base (n t base : ℕ) : Type 0 where
  pub block : ℕ
  pub here : base ≡ block * 2 ^ suc t
  pub within : base ≤ 2 ^ n

pub first : (n t : ℕ) → Base n t 0
first n t = record { block = 0; here = sym (zero-mul (2 ^ suc t)); within = omega arith }

module _ {n t base : ℕ} (u : Base n t base) (q : t < n) (l : base < 2 ^ n) where
  double : 2 ^ suc t ≡ 2 ^ t + 2 ^ t
  double = omega (arith, pow-suc 2 t)

  pub room : base + 2 ^ t + 2 ^ t ≤ 2 ^ n
  room =
      let k : ℕ = n - suc t in
      let e : n ≡ k + suc t = omega arith in
      let p : 2 ^ n ≡ 2 ^ k * 2 ^ suc t = ap (λ (x : ℕ). 2 ^ x) e ∙ pow-add 2 k (suc t) in
      let r : u.block < 2 ^ k = lt_of_mul-lt-mul_right (2 ^ suc t) (omega (arith, u.here)) in
      let s : (u.block + 1) * 2 ^ suc t ≤ 2 ^ k * 2 ^ suc t = mul-le-mul_right (2 ^ suc t) (let h : u.block + 1 ≤ 2 ^ k = omega arith in h) in
      omega (arith, u.here, double, add-mul u.block 1 (2 ^ suc t), one-mul (2 ^ suc t))

  pub next : Base n t (base + 2 ^ t + 2 ^ t)
  next =
      record {
        block = u.block + 1;
        here = omega (arith, u.here, double, add-mul u.block 1 (2 ^ suc t), one-mul (2 ^ suc t));
        within = room;
      }

  -- in counts of 2 ^ t the block starts at an even number
  even : base ≡ u.block * 2 * 2 ^ t
  even = u.here ∙ ap (λ (z : ℕ). u.block * z) (pow-suc 2 t ∙ mul_comm (2 ^ t) 2) ∙ sym (mul_assoc u.block 2 (2 ^ t))

  pub low : (i : ℕ) → base ≤ i → i < base + 2 ^ t → bit t i ≡ 0
  low i x y =
      let j : ℕ = i - base in
      let e : i ≡ u.block * 2 * 2 ^ t + j = omega (arith, even) in
      let d : i / 2 ^ t ≡ u.block * 2 = ap (λ (z : ℕ). z / 2 ^ t) e ∙ digits_div (u.block * 2) (let h : j < 2 ^ t = omega arith in h) in
      omega arith

  pub high : (i : ℕ) → base + 2 ^ t ≤ i → i < base + 2 ^ t + 2 ^ t → bit t i ≡ 1
  high i x y =
      let j : ℕ = i - base - 2 ^ t in
      let o : (u.block * 2 + 1) * 2 ^ t ≡ u.block * 2 * 2 ^ t + 1 * 2 ^ t = add-mul (u.block * 2) 1 (2 ^ t) in
      let e : i ≡ (u.block * 2 + 1) * 2 ^ t + j = omega (arith, even) in
      let d : i / 2 ^ t ≡ u.block * 2 + 1 = ap (λ (z : ℕ). z / 2 ^ t) e ∙ digits_div (u.block * 2 + 1) (let h : j < 2 ^ t = omega arith in h) in
      omega arith

-- the block behind the last one starts at the end
pub ended : {n t base : ℕ} → Base n t base → 2 ^ n ≤ base → base ≡ 2 ^ n
ended u l = omega (arith, u.within)

-- a turn of a loop over the blocks brings its end nearer
pub nearer : (n t base : ℕ) → base < 2 ^ n → 2 ^ n - (base + 2 ^ t + 2 ^ t) < 2 ^ n - base
nearer n t base l = omega (arith, pow_pos t)
