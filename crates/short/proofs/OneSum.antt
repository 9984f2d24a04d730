-- Two sums of one signed count are one float: a zero too, if the first term of each is not nothing, or is +0. Assumes nothing.
use mathlib.Core.Path.{◌≡◌, sym, ap₂, ◌∙◌, subst}
use mathlib.Core.Logic.{◌⊎◌, inl, inr}
use Prim.Native.Nat.{ℕ, ◌+◌, ◌^◌, ◌<◌}
use native.Mathlib.Omega.{arith}
use mathlib.Core.Bool.{Bool, true, false, not, beq}
use lib.IntN.{pos}
use lib.Pow.{pow_pos}
use lib.Ieee.{Float, fin, Format, low, round, sum}
use Rattle.numbers.proofs.Signs.{either, same_sign, one_or_other}
use Rattle.numbers.proofs.Sums.{sum_plus, sum_none}
use Rattle.numbers.proofs.Values.{round_zero}
use Rattle.exact.proofs.SignedLaws.{other}
use Rattle.exact.specs.Signed.{Differ, Rounds}

-- ---- one count, one rounding
pub one_round : (f : Format) (x y : Float) (s : Bool) (a b c d : ℕ) → Rounds f x s a b → Rounds f y s c d → a + d ≡ b + c → (a ≡ b → x ≡ y) → x ≡ y
one_round f x y s a b c d X Y e zero = go (one_or_other X.sgn Y.sgn)
  where
    same : (z : Bool) (m n : ℕ) → Differ z m a b → Differ z n c d → m ≡ n
    same true m n h l = omega arith
    same false m n h l = omega arith

    none : (z : Bool) (m n : ℕ) → Differ z m a b → Differ (not z) n c d → a ≡ b
    none true m n h l = omega arith
    none false m n h l = omega arith

    go : (X.sgn ≡ Y.sgn) ⊎ (beq X.sgn Y.sgn ≡ false) → x ≡ y
    go (inl q) =
        let l = subst (λ (u : Bool). Differ (beq u s) Y.mag c d) (sym q) Y.gap in
        X.is ∙ ap₂ (λ (u : Bool) (m : ℕ). round f u m (2 ^ low f)) q (same (beq X.sgn s) X.mag Y.mag X.gap l) ∙ sym Y.is
    go (inr q) =
        zero (none (beq X.sgn s) X.mag Y.mag X.gap
        (subst (λ (z : Bool). Differ z Y.mag c d) (other X.sgn Y.sgn s q) Y.gap))

-- ---- what cancels is +0
pub cancel : (f : Format) (s u v : Bool) (n k a b c d : ℕ) → Differ (beq u s) n a b → Differ (beq v s) k c d → a + c ≡ b + d
    → (0 < n) ⊎ (u ≡ false) → sum f u n v k (2 ^ low f) ≡ fin false 0 (pos 0)
cancel f s u v n k a b c d h l e o = go (either (beq u v))
  where
    nothing : (z : Bool) → Differ z n a b → Differ z k c d → (n + k ≡ 0) × (n ≡ 0)
    nothing true h l = omega arith
    nothing false h l = omega arith

    level : (z : Bool) → Differ z n a b → Differ (not z) k c d → n ≡ k
    level true h l = omega arith
    level false h l = omega arith

    plus : n ≡ 0 → (0 < n) ⊎ (u ≡ false) → u ≡ false
    plus z (inl p) = absurd (omega arith)
    plus z (inr p) = p

    zero : round f false 0 (2 ^ low f) ≡ fin false 0 (pos 0)
    zero = round_zero f false (2 ^ low f) (pow_pos (low f))

    go : (beq u v ≡ true) ⊎ (beq u v ≡ false) → sum f u n v k (2 ^ low f) ≡ fin false 0 (pos 0)
    go (inl q) =
        let z = nothing (beq u s) h (subst (λ (w : Bool). Differ (beq w s) k c d) (sym (same_sign u v q)) l) in
        sum_plus f u n v k (2 ^ low f) q ∙ ap₂ (λ (w : Bool) (m : ℕ). round f w m (2 ^ low f)) (plus z.1 o) z.0 ∙ zero
    go (inr q) =
        sum_none f u n v k (2 ^ low f) q (level (beq u s) h (subst (λ (z : Bool). Differ z k c d) (other u v s q) l)) ∙ zero
