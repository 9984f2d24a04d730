-- The root where its operand is not an ordinary number above zero. Assumes nothing.
use mathlib.Core.Path.{◌≡◌, refl, sym, ap₂, ◌∙◌, subst}
use Prim.Native.Nat.{ℕ, zero, suc, ◌+◌, ◌*◌, ◌≤◌, ◌<◌, zero-le}
use native.Mathlib.Nat.{le_of_eq, mul-one, zero-mul, mul-pos, zero-lt-suc}
use native.Mathlib.Omega.{arith}
use mathlib.Core.Bool.{Bool, true, false, not, true≢false}
use borrow.Author.Tests.{lt-ltb, le-ltb}
use lib.IntN.{pos}
use lib.Dec.{T, eqb-suc-zero}
use lib.Ieee.{Float, nan, inf, fin, Format, up, down, lt}
use lib.Ieee.Fits.{up_pos}
use lib.Ieee.Exact.{HasValue}
use Rattle.numbers.specs.Fused.{root}
use Rattle.operands.specs.Operands.{ordinary}
use Rattle.operands.proofs.Floats.{some}

pub root_negative : (f : Format) (x : Float) → lt x (fin false 0 (pos 0)) ≡ true → nan ≡ root f x
unfolding lt root
root_negative f nan h = absurd (true≢false (sym h))
root_negative f (inf true) h = refl
root_negative f (inf false) h = absurd (true≢false (sym h))
root_negative f (fin true zero e) h = absurd (true≢false (sym h ∙ le-ltb 0 (0 * up e * 1 + 0 * down e) (le_of_eq (nothing (up e) (down e)))))
  where
    nothing : (a b : ℕ) → 0 * a * 1 + 0 * b ≡ 0
    nothing a b = ap₂ ◌+◌ (mul-one (0 * a) ∙ zero-mul a) (zero-mul b)
root_negative f (fin true (suc m) e) h = refl
root_negative f (fin false m e) h =
    absurd (true≢false (sym h ∙ le-ltb (m * up e * 1) (0 * down e) (subst (λ (y : ℕ). y ≤ m * up e * 1) (sym (zero-mul (down e))) zero-le)))

pub root_itself : (f : Format) (x : Float) → lt x (fin false 0 (pos 0)) ≡ false → T (not (ordinary x)) → x ≡ root f x
unfolding lt root
root_itself f nan h o = refl
root_itself f (inf true) h o = absurd (true≢false h)
root_itself f (inf false) h o = refl
root_itself f (fin s zero e) h o = refl
root_itself f (fin s (suc m) e) h o = absurd (subst (λ (b : Bool). T (not (not b))) (eqb-suc-zero m) o)

-- an ordinary number that is not below zero has no minus
pub not_negative : (x : Float) (s : Bool) (a c : ℕ) → lt x (fin false 0 (pos 0)) ≡ false → T (ordinary x) → HasValue x s a c → HasValue x false a c
unfolding lt
not_negative nan s a c h o v = absurd o
not_negative (inf t) s a c h o v = absurd o
not_negative (fin false m e) s a c h o v = (refl, v.1)
not_negative (fin true m e) s a c h o v =
    absurd (true≢false (sym (lt-ltb 0 (m * up e * 1 + 0 * down e) (more (m * up e * 1) (0 * down e)
    (mul-pos (mul-pos (some m o) (up_pos e)) (zero-lt-suc 0)))) ∙ h))
  where
    more : (p q : ℕ) → 0 < p → 0 < p + q
    more p q h = omega arith
