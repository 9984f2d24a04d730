-- Laws of bits: one bit of a number, `and` with a bit more, and the next number that has all bits of a set. Assumes nothing.
use Prim.Native.Nat.{ℕ, suc, ◌+◌, ◌-◌, ◌*◌, ◌/◌, ◌%◌, ◌^◌, ◌≤◌, ◌<◌, max}
use mathlib.Core.Logic.{⊎_elim}
use mathlib.Core.Path.{◌≡◌, sym, ap, ap₂, ◌∙◌}
use native.Mathlib.Nat.{pow-suc, mod-lt, add-div_right, zero-lt-suc, mul-div_cancel, div-eq_of_lt}
use native.Mathlib.Nat.{zero-div, zero-add, add-mul, one-mul, le-div_iff_mul-le, mul-le-mul_right}
use native.Mathlib.Decide.{dec_lt}
use native.Mathlib.Numerals.{add-one}
use native.Mathlib.Omega.{arith}
use lib.Arith.{bin_ind}
use lib.Bits.{bit_and, bit_or, and_self, and_step, or_step, and_comm, and_le_r, and_zero_l, and_zero_r, or_add_and, or_block, or_zero_r}
use lib.Pow.{pow_pos, pow-add, pow-lt, split}
use Rattle.book.proofs.Bits as Book
use Rattle.book.specs.State.{bit}
pub use Rattle.book.proofs.Bits.{bit_lt, halves, and_add, bit_up, bit_le, bit_down, up_lt}

pub or_ge : (a f : ℕ) → a ≤ bit_or a f
or_ge a f = omega (arith, or_add_and a f, and_le_r a f)

pub or_covers : (a f : ℕ) → bit_and (bit_or a f) f ≡ f
or_covers a =
    bin_ind (λ (n : ℕ). (f : ℕ) → bit_and (bit_or n f) f ≡ f) and_self
    (λ n ih f.
    let s : bit_or n f ≡ bit_or (n / 2) (f / 2) * 2 + max (n % 2) (f % 2) = or_step n f in
    let hi : bit_or n f / 2 ≡ bit_or (n / 2) (f / 2) = omega arith in
    let lo : bit_or n f % 2 ≡ max (n % 2) (f % 2) = omega arith in
    let e : bit_and (bit_or n f / 2) (f / 2) ≡ f / 2 = rw hi (ih (f / 2)) in
    omega (arith, and_step (bit_or n f) f)) a

-- the next number above i that has all bits of f
pub next_least : (i f j : ℕ) → bit_and i f ≡ f → bit_and j f ≡ f → i < j → bit_or (i + 1) f ≤ j
next_least i =
    bin_ind (λ (n : ℕ). (f j : ℕ) → bit_and n f ≡ f → bit_and j f ≡ f → n < j → bit_or (n + 1) f ≤ j)
    (λ f j e k l. let z : f ≡ 0 = omega (arith, and_zero_l f) in rw z (omega (arith, or_zero_r (0 + 1))))
    (λ n ih f j e k l.
    let en : bit_and (n / 2) (f / 2) ≡ f / 2 = omega (arith, and_step n f) in
    let yn : f % 2 ≤ n % 2 = omega (arith, and_step n f) in
    let ej : bit_and (j / 2) (f / 2) ≡ f / 2 = omega (arith, and_step j f) in
    let yj : f % 2 ≤ j % 2 = omega (arith, and_step j f) in
    let s : bit_or (n + 1) f ≡ bit_or ((n + 1) / 2) (f / 2) * 2 + max ((n + 1) % 2) (f % 2) = or_step (n + 1) f in
    ⊎_elim
    (λ z.
    let h : (n + 1) / 2 ≡ n / 2 = omega arith in
    let s' : bit_or (n + 1) f ≡ bit_or (n / 2) (f / 2) * 2 + max ((n + 1) % 2) (f % 2) =
    s ∙ ap (λ (x : ℕ). bit_or x (f / 2) * 2 + max ((n + 1) % 2) (f % 2)) h in
    omega (arith, or_add_and (n / 2) (f / 2)))
    (λ o.
    let h : (n + 1) / 2 ≡ n / 2 + 1 = omega arith in
    let s' : bit_or (n + 1) f ≡ bit_or (n / 2 + 1) (f / 2) * 2 + max ((n + 1) % 2) (f % 2) = s
    ∙ ap (λ (x : ℕ). bit_or x (f / 2) * 2 + max ((n + 1) % 2) (f % 2)) h in
    omega (arith, ih (f / 2) (j / 2) en ej (omega arith)))
    (Book.zero_or_one (n % 2) (mod-lt n (zero-lt-suc 1)))) i

-- ---- the same in blocks of 2 ^ k numbers, where the set has no bit below 2 ^ k: the start of the next block that has all bits of the set
module _ (k x y : ℕ) where
  pub next_block : bit_or (x * 2 ^ k + 2 ^ k) (y * 2 ^ k) ≡ bit_or (x + 1) y * 2 ^ k
  next_block =
      let m : x * 2 ^ k + 2 ^ k ≡ (x + 1) * 2 ^ k + 0 = omega (arith, add-mul x 1 (2 ^ k), one-mul (2 ^ k)) in
      let z : y * 2 ^ k ≡ y * 2 ^ k + 0 = omega arith in
      ap₂ bit_or m z ∙ or_block k (x + 1) y 0 0 (pow_pos k) (pow_pos k) ∙ omega (arith, or_zero_r 0)

  pub next_block_least : (j : ℕ) → bit_and x y ≡ y → bit_and (j / 2 ^ k) y ≡ y → x * 2 ^ k + 2 ^ k ≤ j → bit_or (x + 1) y * 2 ^ k ≤ j
  next_block_least j e f l =
      let g : x + 1 ≤ j / 2 ^ k = (le-div_iff_mul-le (pow_pos k)).1 (omega (arith, add-mul x 1 (2 ^ k), one-mul (2 ^ k))) in
      omega (arith, split j k, mul-le-mul_right (2 ^ k) (next_least x y (j / 2 ^ k) e f (let h : x < j / 2 ^ k = omega arith in h)))

-- ---- a bit set and taken away

-- what had the bit once 2 ^ t was added had it not before
pub bit_before : (t i : ℕ) → bit t (i + 2 ^ t) ≡ 1 → bit t i ≡ 0
bit_before t i e = let d : (i + 2 ^ t) / 2 ^ t ≡ i / 2 ^ t + 1 = add-div_right i (pow_pos t) in omega arith

-- ---- numbers that have all bits of a set that has the bit t

module _ (t m : ℕ) (free : bit t m ≡ 0) where
  pub has_set : (i : ℕ) → bit t i ≡ 1 → bit_and i m ≡ m → bit_and i (m + 2 ^ t) ≡ m + 2 ^ t
  has_set i o e =
      let a : bit_and i (m + 2 ^ t) ≡ bit_and i m + bit t i * 2 ^ t = and_add t i m free in
      let b : bit_and i (m + 2 ^ t) ≡ bit_and i m + 1 * 2 ^ t = rw o at a in
      omega arith

  pub set_has : (i : ℕ) → bit_and i (m + 2 ^ t) ≡ m + 2 ^ t → (bit t i ≡ 1) × (bit_and i m ≡ m)
  set_has i e =
      let a : bit_and i (m + 2 ^ t) ≡ bit_and i m + bit t i * 2 ^ t = and_add t i m free in
      ⊎_elim
      (λ z.
      let b : bit_and i (m + 2 ^ t) ≡ bit_and i m + 0 * 2 ^ t = rw z at a in
      absurd (omega (arith, and_le_r i m, pow_pos t)))
      (λ o.
      let b : bit_and i (m + 2 ^ t) ≡ bit_and i m + 1 * 2 ^ t = rw o at a in
      (o, omega arith))
      (halves t i)

  -- what i has of m, i with the bit t set has too
  pub and_up : (i : ℕ) → bit t i ≡ 0 → bit_and (i + 2 ^ t) m ≡ bit_and i m
  and_up i e =
      let a : bit_and m (i + 2 ^ t) ≡ bit_and m i + bit t m * 2 ^ t = and_add t m i e in
      let b : bit_and m (i + 2 ^ t) ≡ bit_and m i + 0 * 2 ^ t = rw free at a in
      omega (arith, and_comm (i + 2 ^ t) m, and_comm i m)

-- ---- two bits

pub bit_pow : (t u : ℕ) → (t ≡ u → ⊥) → bit t (2 ^ u) ≡ 0
bit_pow t u ne =
    elim (dec_lt t u) [
      | yes l ↦
          let k : ℕ = u - suc t in
          let e : u ≡ k + 1 + t = omega arith in
          let p : 2 ^ u ≡ 2 ^ (k + 1) * 2 ^ t = ap (λ (x : ℕ). 2 ^ x) e ∙ pow-add 2 (k + 1) t in
          let q : 2 ^ (k + 1) ≡ 2 ^ k * 2 = rw add-one (pow-suc 2 k) in
          let d : 2 ^ u / 2 ^ t ≡ 2 ^ k * 2 = ap (λ (x : ℕ). x / 2 ^ t) p ∙ mul-div_cancel (2 ^ (k + 1)) (pow_pos t) ∙ q in
          omega arith
      | no l ↦ let d : 2 ^ u / 2 ^ t ≡ 0 = div-eq_of_lt (pow-lt (let h : u < t = omega arith in h)) in omega arith
    ]

-- `and` with one bit
single : (t i : ℕ) → bit_and i (2 ^ t) ≡ bit t i * 2 ^ t
single t i =
    let a : bit_and i (0 + 2 ^ t) ≡ bit_and i 0 + bit t i * 2 ^ t = and_add t i 0 (ap (λ (x : ℕ). x % 2) (zero-div (2 ^ t))) in
    omega (arith, ap (bit_and i) (zero-add (2 ^ t)), and_zero_r i)

pub bit_of_and : (t i : ℕ) → bit_and i (2 ^ t) ≡ 2 ^ t → bit t i ≡ 1
bit_of_and t i e =
    ⊎_elim
    (λ z. let s : bit_and i (2 ^ t) ≡ 0 * 2 ^ t = rw z at (single t i) in absurd (omega (arith, pow_pos t)))
    (λ o. o)
    (halves t i)

pub and_of_bit : (t i : ℕ) → bit t i ≡ 1 → bit_and i (2 ^ t) ≡ 2 ^ t
and_of_bit t i o = let s : bit_and i (2 ^ t) ≡ 1 * 2 ^ t = rw o at (single t i) in omega arith

-- a bit set changes no other
pub bit_other : (t u i : ℕ) → (t ≡ u → ⊥) → bit t i ≡ 0 → bit u (i + 2 ^ t) ≡ bit u i
bit_other t u i ne z = Book.bit_other u t i (λ e. ne (sym e)) z
