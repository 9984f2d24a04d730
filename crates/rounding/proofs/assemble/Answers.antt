-- `rounding::assemble` meets its contract: k * HIDDEN + q are the bits, up to the infinity's, and none of them is a NaN's. Assumes nothing.
use mathlib.Core.Path.{◌≡◌, sym, ap, ◌∙◌, subst}
use mathlib.Core.Logic.{inl, inr}
use mathlib.Core.Bool.{Bool, true, false, not, cond}
use Prim.Native.Nat.{ℕ, ◌+◌, ◌*◌, ◌%◌, ◌≤◌, min}
use native.Mathlib.Omega.{arith}
use lib.Dec.{T}
use lib.Arith.{le→nltb}
use lib.Ieee.{binary64, hid, ones, top, nan_bits, of_bits, units}
use lib.Ieee.Bits.{nan_bits_above}
use Rattle.std.proofs.lemmas.Bool.{cases_lt}
use Rattle.numbers.proofs.BitsOf.{bits_under, bits_over}
use Rattle.rounding.specs.Working.{Kept}
use Rattle.rounding.proofs.assemble.Goals.{then-neg, else-neg}
use Rattle.rounding.proofs.assemble.Goals as goal

no_nan : (b : ℕ) → b % top binary64 ≤ ones binary64 * hid binary64 → T (not (nan_bits binary64 b))
no_nan b h = subst (λ (t : Bool). T (not t)) (sym (nan_bits_above binary64 b)) (le→nltb (ones binary64 * hid binary64) (b % top binary64) h)

pub float_from_bits-result : goal.float_from_bits-result
float_from_bits-result c = no_nan c.if-neg.result (elim c.if-neg.branch [ then-neg w ↦ omega arith | else-neg w ↦ omega arith ])

-- the sign, and the bits of the number or of the infinity
value : (s : Bool) (q k : ℕ) → Kept binary64 q k
    → of_bits binary64 (cond s (top binary64) 0 + min (k * hid binary64 + q) (ones binary64 * hid binary64)) ≡ units binary64 s q k
value s q k h = elim (cases_lt (k * hid binary64 + q) (ones binary64 * hid binary64)) [
  | inl l ↦ ap (of_bits binary64) (omega arith) ∙ bits_under binary64 s q k h.most h.full l
  | inr l ↦ ap (of_bits binary64) (omega arith) ∙ bits_over binary64 s q k h.most h.full l
]

pub returns : goal.returns
returns c = let a = c.args in elim c.if-neg.branch [
  | then-neg w ↦ ap (of_bits binary64) (omega arith) ∙ value true a.q a.k c.requires ∙ ap (λ (s : Bool). units binary64 s a.q a.k) (sym w.if-neg.true)
  | else-neg w ↦ ap (of_bits binary64) (omega arith) ∙ value false a.q a.k c.requires ∙ ap (λ (s : Bool). units binary64 s a.q a.k) (sym w.if-neg.false)
]
