-- `rounding::quarters` meets its contract: a shift to the right rounds to odd, and one to the left loses nothing, since s then has few digits.
-- Assumes nothing.
use mathlib.Core.Path.{◌≡◌, sym, ap, ◌∙◌}
use Prim.Native.Nat.{ℕ, ◌+◌, ◌-◌, ◌*◌, ◌%◌, ◌^◌, ◌≤◌}
use native.Mathlib.Nat.{mul_assoc}
use native.Mathlib.Omega.{arith}
use lib.Pow.{pow-add, shl_exact}
use lib.Ieee.{binary64, size}
use lib.Ieee.Digits.{size-le, size-lt}
use Rattle.rounding.specs.Odd.{cut_to_odd}
use Rattle.rounding.specs.Working.{below}
use Rattle.rounding.proofs.RoundToOdd.{cut_scaled, cut_exact}
use Rattle.rounding.proofs.quarters.Goals as goal

back : (a b : ℕ) → a ≤ b → b - a + a ≡ b
back a b h = omega arith

right : (s e m : ℕ) → e ≤ m → cut_to_odd s (m - e) ≡ cut_to_odd (s * 2 ^ e) m
right s e m h = sym (cut_scaled s (m - e) e) ∙ ap (cut_to_odd (s * 2 ^ e)) (back e m h)

left : (s e m : ℕ) → m ≤ e → size s + (e - m) ≤ 64 → (s * 2 ^ (e - m)) % 2 ^ 64 ≡ cut_to_odd (s * 2 ^ e) m
left s e m h k =
    shl_exact (size s) (e - m) 64 (size-lt s) k
    ∙ sym (cut_exact (s * 2 ^ (e - m)) m)
    ∙ ap (λ (y : ℕ). cut_to_odd y m)
    (mul_assoc s (2 ^ (e - m)) (2 ^ m) ∙ ap (λ (y : ℕ). s * y) (sym (pow-add 2 (e - m) m) ∙ ap (λ (y : ℕ). 2 ^ y) (back m e h)))

pub overflow_add-cut : goal.overflow_add-cut
overflow_add-cut c = omega (arith, size-le c.args.s 64 (omega arith))

pub returns-then-e-cut : goal.returns-then-e-cut
returns-then-e-cut c = let a = c.args in
    c.shift_to_odd.ensures ∙ right a.s a.e (below binary64 - 2 + a.k) (omega arith)

pub returns-else-e-cut : goal.returns-else-e-cut
returns-else-e-cut c = let a = c.args in left a.s a.e (below binary64 - 2 + a.k) (omega arith) (omega arith)
