-- `terms::sum::multiply_add` meets its contract: moving the significands up, by 11 and by 10 digits, takes as much off the exponents. Assumes nothing.
use mathlib.Core.Path.{◌≡◌, sym, ap, ap₂, ◌∙◌}
use Prim.Native.Nat.{ℕ, ◌+◌, ◌*◌, ◌^◌}
use native.Mathlib.Nat.{mul_assoc, mul_comm, mul_left_comm}
use lib.Pow.{pow-add, pow_pos}
use lib.Ieee.{binary64, low, sum, unlike}
use Rattle.numbers.proofs.Sums.{sum_scaled}
use Rattle.rounding.specs.Working.{scale}
use Rattle.std.proofs.Common.{rules}
use Rattle.terms.proofs.sum.multiply_add.Goals as goal

regroup : (m n P Q k j : ℕ) → m * k * n * (P * Q * j) ≡ m * P * (n * Q) * (k * j)
regroup m n P Q k j = simp (mul_assoc, mul_comm, mul_left_comm)

product : (m e n d : ℕ) → m * 2 ^ 11 * n * 2 ^ (e + d + 5) ≡ m * 2 ^ e * (n * 2 ^ d) * 2 ^ 16
product m e n d =
    ap (λ (y : ℕ). m * 2 ^ 11 * n * y) (pow-add 2 (e + d) 5 ∙ ap (λ (y : ℕ). y * 2 ^ 5) (pow-add 2 e d)) ∙ regroup m n (2 ^ e) (2 ^ d) (2 ^ 11) (2 ^ 5)

term : (p g l : ℕ) → p * 2 ^ 10 * 2 ^ (g + (l + 6)) ≡ p * 2 ^ g * 2 ^ l * 2 ^ 16
term p g l = ap (λ (y : ℕ). p * 2 ^ 10 * y) (pow-add 2 g (l + 6) ∙ ap (λ (y : ℕ). 2 ^ g * y) (pow-add 2 l 6)) ∙ four p (2 ^ 10) (2 ^ g) (2 ^ l) (2 ^ 6)
  where
    four : (p a g l b : ℕ) → p * a * (g * (l * b)) ≡ p * g * l * (a * b)
    four p a g l b = simp (mul_assoc, mul_left_comm)

pub aligned-requires : goal.aligned-requires
aligned-requires c = rw (c.from.ensures, c.from-2.ensures) (search rules)

pub returns : goal.returns
returns c =
    let a = c.args in
    let s = unlike a.x.neg a.y.neg in
    let p = a.x.m * 2 ^ a.x.e * (a.y.m * 2 ^ a.y.e) in
    let q = a.z.m * 2 ^ a.z.e * 2 ^ low binary64 in
    c.aligned.ensures
    ∙ ap₂ (λ (u v : ℕ). sum binary64 s (u * v * 2 ^ (a.x.e + a.y.e + 5)) a.z.neg (a.z.m * 2 ^ 10 * 2 ^ (a.z.e + (low binary64 + 6))) (scale binary64))
    c.from.ensures c.from-2.ensures
    ∙ ap₂ (λ (v w : ℕ). sum binary64 s v a.z.neg w (scale binary64)) (product a.x.m a.x.e a.y.m a.y.e)
    (term a.z.m a.z.e (low binary64))
    ∙ sym (sum_scaled binary64 s p a.z.neg q (2 ^ (low binary64 + low binary64)) (2 ^ 16) (pow_pos (low binary64 + low binary64)) (pow_pos 16))
