-- `terms::sum::pack_wide` meets its contract: two limbs have more digits than are kept, with two to spare, so squeezing them changes no answer.
-- Assumes nothing.
use mathlib.Core.Path.{◌≡◌, sym, ap, ap₂, ◌∙◌}
use mathlib.Core.Logic.{◌⊎◌, inl, inr}
use Prim.Native.Nat.{ℕ, ◌+◌, ◌-◌, ◌*◌, ◌%◌, ◌^◌, ◌≤◌, ◌<◌}
use native.Mathlib.Nat.{eq-zero-or-pos, mod-lt, div-add-mod'}
use native.Mathlib.Omega.{arith}
use lib.Ieee.{Format, binary64, prec, size, round}
use lib.Pow.{pow_pos}
use Rattle.numbers.proofs.Sizes.{size_zero}
use Rattle.terms.specs.Terms.{upper}
use Rattle.rounding.specs.Working.{below, scale}
use Rattle.terms.proofs.AlikeSums.{round_squeeze, size_wide}
use Rattle.terms.proofs.sum.pack_wide.Goals as goal

-- a number has 64 digits more than its upper limb
size_upper : (w : ℕ) → 0 < upper w → size w ≡ size (upper w) + 64
size_upper w h =
    ap size (sym (div-add-mod' w (2 ^ 64))) ∙ size_wide (upper w) (w % 2 ^ 64) 64 h (mod-lt w (pow_pos 64))

enough : (f : Format) (w e : ℕ) → prec f + 2 ≤ 64 → (size (upper w) ≡ 0) ⊎ (size (upper w) + e + 2 ≤ below f + (size w + e - below f - prec f))
enough f w e p = go (eq-zero-or-pos (upper w))
  where
    room : (x p z y e : ℕ) → p + 2 ≤ 64 → y ≡ z + 64 → z + e + 2 ≤ x + (y + e - x - p)
    room x p z y e k h = omega arith

    go : (upper w ≡ 0) ⊎ (0 < upper w) → (size (upper w) ≡ 0) ⊎ (size (upper w) + e + 2 ≤ below f + (size w + e - below f - prec f))
    go (inl h) = inl (ap size h ∙ size_zero)
    go (inr h) = inr (room (below f) (prec f) (size (upper w)) (size w) e p (size_upper w h))

pub returns : goal.returns
returns c =
    let a = c.args in
    let e = c.squeeze-c.ensures in
    c.pack.ensures
    ∙ ap₂ (λ (s e : ℕ). round binary64 a.neg (s * 2 ^ e) (scale binary64)) e.0 e.1
    ∙ round_squeeze binary64 a.neg a.w (size (upper a.w)) a.e (below binary64) (enough binary64 a.w a.e (omega arith))
