-- The state at the start: what is 1 and then zeros in all places is so in the first of them. Assumes nothing.
use Prim.Native.Nat.{ℕ, zero, suc, ◌*◌, ◌-◌, ◌%◌, ◌^◌, ◌≤◌}
use native.Mathlib.Nat.{pow-le-pow_right}
use native.Mathlib.Omega.{arith}
use mathlib.Core.List.{List, ◌∷◌, map}
use mathlib.Core.Path.{◌≡◌, refl, ap, ap₂, ◌∙◌}
use lib.Ieee.{Float}
use lib.ListN.{take, replicate}
use Rattle.book.specs.Answers.{buffers}
use Rattle.book.specs.Examples.{whole}
use Rattle.first_state.specs.First.{first_state}

-- as many places as n qubits have
pub places : (n : ℕ) → n ≤ 11 → (1 ≤ 2 ^ n) × (2 ^ n ≤ 2048)
places n few = (pow-le-pow_right {n = 2} (omega arith) {i = 0} {j = n} (omega arith), pow-le-pow_right {n = 2} (omega arith) {i = n} {j = 11} few)

fill : (z : Float) (f : ℕ → Float) (k m : ℕ) → z ≡ f 0 → k ≤ m → take k (replicate m z) ≡ map f (replicate k 0)
fill z f zero m is h = refl
fill z f (suc k) zero is h = absurd (omega arith)
fill z f (suc k) (suc m) is h = ap₂ (λ (x : Float) (xs : List Float). x ∷ xs) is (fill z f k m is (omega arith))

filled : (o z : Float) (f : ℕ → Float) (n m : ℕ) → o ≡ f 1 → z ≡ f 0 → n ≤ 11 → 2047 ≤ m
    → take (2 ^ n) (o ∷ replicate m z) ≡ map f (1 ∷ replicate (2 ^ n - 1) 0)
filled o z f n m first rest few enough =
    let (some, most) = places n few in
    let size : 2 ^ n ≡ suc (2 ^ n - 1) = omega arith in
    ap (λ (k : ℕ). take k (o ∷ replicate m z)) size
    ∙ ap₂ (λ (x : Float) (xs : List Float). x ∷ xs) first (fill z f (2 ^ n - 1) m rest (omega arith))

module _ (n : ℕ) (few : n ≤ 11) where
  pub first_real : {o z : Float} (m : ℕ) → o ≡ whole 1 → z ≡ whole 0 → 2047 ≤ m → take (2 ^ n) (o ∷ replicate m z) ≡ (first_state n).reals
  first_real {o} {z} m one none enough = filled o z whole n m one none few enough

  first_imaginary : {z : Float} → z ≡ whole 0 → take (2 ^ n) (replicate 2048 z) ≡ (first_state n).imags
  first_imaginary {z} none = filled z z (λ k. whole 0) n 2047 none none few (omega arith)

  -- the code's 1 << n
  pub shifted : (1 * 2 ^ n) % 2 ^ 64 - 0 ≡ 2 ^ n
  shifted = omega (arith, (places n few).0, (places n few).1)

  -- what is lent of both buffers
  pub first_lent : (reals : List Float) {z : Float} → ((m : ℕ) → m ≤ 11 → take (2 ^ m) reals ≡ (first_state m).reals) → z ≡ whole 0
      → let size = (1 * 2 ^ n) % 2 ^ 64 - 0 in buffers (take size reals) (take size (replicate 2048 z)) ≡ first_state n
  first_lent reals {z} are none =
      ap₂ buffers (ap (λ (k : ℕ). take k reals) shifted ∙ are n few) (ap (λ (k : ℕ). take k (replicate 2048 z)) shifted ∙ first_imaginary none)
