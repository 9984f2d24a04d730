-- `terms::sum::aligned` meets its contract: in each of its three cases the two terms stand in one unit, and what was cut was rounded to odd. Assumes nothing.
use mathlib.Core.Path.{◌≡◌, sym, ap, ap₂, ◌∙◌}
use Prim.Native.Nat.{ℕ, ◌+◌, ◌-◌, ◌*◌, ◌%◌, ◌^◌, ◌≤◌, ◌<◌}
use native.Mathlib.Nat.{mul_assoc, mod-eq_of_lt, lt_of_lt_of_le}
use native.Mathlib.Omega.{arith}
use lib.Dec.{lit≤}
use lib.Pow.{pow-add, pow_mono, shl_lt}
use lib.Ieee.{binary64, prec, sum}
use Rattle.rounding.specs.Odd.{cut_to_odd}
use Rattle.rounding.specs.Working.{scale}
use Rattle.terms.proofs.Aligned.{finer, coarse}
use Rattle.terms.proofs.sum.aligned.Goals as goal

-- ---- the product's size
one_more : (w g : ℕ) → w < 2 ^ (64 + prec binary64) → g < 2 ^ 126 → w + g < 2 ^ 127
one_more w g a b = omega arith

-- ---- m << d
shifted : (m d : ℕ) → m < 2 ^ 63 → d < 64 → (m * 2 ^ d < 2 ^ 126) × (m * 2 ^ d % 2 ^ 128 ≡ m * 2 ^ d)
shifted m d h k =
    let small : m * 2 ^ d < 2 ^ 126 = lt_of_lt_of_le (shl_lt 63 d h) (pow_mono (let l : 63 + d ≤ 126 = omega arith in l)) in
    (small, mod-eq_of_lt (let l : m * 2 ^ d < 2 ^ 128 = omega arith in l))

joined : (m a b : ℕ) → a ≤ b → m * 2 ^ (b - a) * 2 ^ a ≡ m * 2 ^ b
joined m a b h = mul_assoc m (2 ^ (b - a)) (2 ^ a) ∙ ap (λ (y : ℕ). m * y) (sym (pow-add 2 (b - a) a) ∙ ap (λ (y : ℕ). 2 ^ y) (let e : b - a + a ≡ b = omega arith in e))

pub returns-then-b-a : goal.returns-then-b-a
returns-then-b-a c =
    let a = c.args in
    let t = c.requires in
    c.pack_sum.ensures
    ∙ ap (λ (y : ℕ). sum binary64 a.p (a.w * 2 ^ a.a) a.t (y * 2 ^ a.a) (scale binary64)) (c.from.ensures ∙ c.shift_to_odd.ensures)
    ∙ finer binary64 62 (lit≤ tt) a.p a.w a.a a.t a.m a.b c.if-b-a.true t.even (t.long c.if-b-a.true) t.most'

pub returns-then-d-lt64 : goal.returns-then-d-lt64
returns-then-d-lt64 c =
    let a = c.args in
    let d = a.b - a.a in
    c.pack_sum-then-d-lt64.ensures
    ∙ ap (λ (y : ℕ). sum binary64 a.p (a.w * 2 ^ a.a) a.t (y * 2 ^ a.a) (scale binary64))
    (ap (λ (m : ℕ). m * 2 ^ d % 2 ^ 128) c.from-then-d-lt64.ensures ∙ (shifted a.m d c.requires.most' c.if-d-lt64.true).1)
    ∙ ap (λ (y : ℕ). sum binary64 a.p (a.w * 2 ^ a.a) a.t y (scale binary64)) (joined a.m a.a a.b c.if-b-a.false)

pub returns : goal.returns
returns c =
    let a = c.args in
    let t = c.requires in
    c.pack_sum-2.ensures
    ∙ ap₂ (λ (y z : ℕ). sum binary64 a.p (y * 2 ^ a.b) a.t (z * 2 ^ a.b) (scale binary64))
    (c.from-2.ensures ∙ c.shift_to_odd-cut.ensures ∙ ap (λ (y : ℕ). cut_to_odd y (a.b - a.a - 64)) c.to_odd.ensures) c.from-3.ensures
    ∙ coarse binary64 61 (lit≤ tt) a.p a.w a.a a.t a.m a.b c.if-d-lt64.false t.most t.even' t.long'
