-- `terms::sum::pack_sum` meets its contract: by the cases of lib.Ieee's `sum`. Assumes nothing.
use mathlib.Core.Path.{◌≡◌, refl, sym, ap, ◌∙◌}
use Prim.Native.Nat.{ℕ, ◌*◌, ◌^◌}
use native.Mathlib.Nat.{le_antisymm, add-mul, mul-lt-mul_of_pos_right}
use mathlib.Core.Bool.{false}
use lib.Pow.{pow_pos}
use lib.Ieee.{binary64, round, of_bits}
use Rattle.numbers.proofs.Sums.{sum_plus, sum_less, sum_more, sum_none, sub_mul}
use Rattle.rounding.specs.Working.{scale}
use Rattle.terms.proofs.sum.pack_sum.Goals as goal

zero_law : of_bits binary64 0 ≡ round binary64 false 0 (scale binary64)
unfolding of_bits round
zero_law = refl

pub returns-then-p-m : goal.returns-then-p-m
returns-then-p-m c =
    let a = c.args in
    let g = 2 ^ a.e in
    c.pack_wide.ensures
    ∙ ap (λ (n : ℕ). round binary64 a.p n (scale binary64)) (add-mul a.a a.b g)
    ∙ sym (sum_plus binary64 a.p (a.a * g) a.m (a.b * g) (scale binary64) c.if-p-m.true)

pub returns-then-a-b : goal.returns-then-a-b
returns-then-a-b c =
    let a = c.args in
    let g = 2 ^ a.e in
    c.pack_wide-then-a-b.ensures
    ∙ ap (λ (n : ℕ). round binary64 a.m n (scale binary64)) (sub_mul a.b a.a g)
    ∙ sym (sum_less binary64 a.p (a.a * g) a.m (a.b * g) (scale binary64) c.if-p-m.false (mul-lt-mul_of_pos_right c.if-a-b.true (pow_pos a.e)))

pub returns-then-b-a : goal.returns-then-b-a
returns-then-b-a c =
    let a = c.args in
    let g = 2 ^ a.e in
    c.pack_wide-then-b-a.ensures
    ∙ ap (λ (n : ℕ). round binary64 a.p n (scale binary64)) (sub_mul a.a a.b g)
    ∙ sym (sum_more binary64 a.p (a.a * g) a.m (a.b * g) (scale binary64) c.if-p-m.false (mul-lt-mul_of_pos_right c.if-b-a.true (pow_pos a.e)))

pub returns-else-b-a : goal.returns-else-b-a
returns-else-b-a c =
    let a = c.args in
    let g = 2 ^ a.e in
    let e : a.a ≡ a.b = le_antisymm c.if-b-a.false c.if-a-b.false in
    zero_law ∙ sym (sum_none binary64 a.p (a.a * g) a.m (a.b * g) (scale binary64) c.if-p-m.false (ap (λ (n : ℕ). n * g) e))
