-- F of ordinary numbers is one sum in whole numbers; and a choice by whether three operands are ordinary. Assumes nothing.
use mathlib.Core.Path.{◌≡◌, refl, sym, ap, ◌∙◌}
use Prim.Native.Nat.{ℕ, ◌+◌, ◌*◌, ◌^◌, ◌<◌}
use native.Mathlib.Nat.{mul_assoc, mul-pos}
use mathlib.Core.Bool.{Bool, true, false, cond, ◌&&◌}
use lib.Dec.{T}
use lib.Pow.{pow-add, pow_pos}
use lib.Ieee.{Float, Format, low, unlike, sum}
use lib.Ieee.Exact.{HasValue}
use Rattle.numbers.specs.Fused.{fused}
use Rattle.numbers.proofs.Sums.{sum_scaled}
use Rattle.numbers.proofs.Values as Values

-- each is a count of the smallest value
pub fused_ordinary : (f : Format) (x y z : Float) (r s t : Bool) (a b c : ℕ) → HasValue x r a (2 ^ low f) → HasValue y s b (2 ^ low f)
    → HasValue z t c (2 ^ low f)
    → fused f x y z ≡ sum f (unlike r s) (a * b) t (c * 2 ^ low f) (2 ^ (low f + low f))
fused_ordinary f x y z r s t a b c h k l =
    let L = 2 ^ low f in
    let P : 0 < L = pow_pos (low f) in
    Values.fused_at f x y z r s t a b c L L L P P P h k l
    ∙ ap (λ (w : ℕ). sum f (unlike r s) (a * b * L) t w (L * L * L)) (sym (mul_assoc c L L))
    ∙ sym (sum_scaled f (unlike r s) (a * b) t (c * L) (L * L) L (mul-pos P P) P)
    ∙ ap (sum f (unlike r s) (a * b) t (c * L)) (sym (pow-add 2 (low f) (low f)))

-- ---- all three, or not
pub all_three : {X : Type 0} (a b c : Bool) (x y : X) → T a → T b → T c → cond (a && (b && c)) x y ≡ x
all_three true true true x y p q r = refl
all_three true true false x y p q r = absurd r
all_three true false c x y p q r = absurd q
all_three false b c x y p q r = absurd p

pub not_three : {X : Type 0} (a b c : Bool) (x y : X) → (T a → T b → T c → ⊥) → y ≡ cond (a && (b && c)) x y
not_three true true true x y h = absurd (h tt tt tt)
not_three true true false x y h = refl
not_three true false c x y h = refl
not_three false b c x y h = refl
