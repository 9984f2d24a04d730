-- A measurement looks at the half of its outcome alone: whatever the other half holds, its tests, its value and what it leaves are the same. And a half that
-- holds only zeros has the probability 0.0, so that 7 applies. Both by one law: a sum is that of the squares in its half. Assumes nothing.
use Prim.Native.Nat.{ℕ, zero, suc, ◌^◌, ◌<◌}
use mathlib.Core.Bool.{Bool, true, false, cond}
use mathlib.Core.Logic.{◌⊎◌, ⊎_elim}
use mathlib.Core.Path.{◌≡◌, refl, ap, ap₂, ◌∙◌}
use native.Mathlib.Omega.{arith}
use borrow.Author.Tests.{eqb-true}
use lib.Dec.{eqb}
use lib.Ieee.{Float, add, mul, neg, lt}
use Rattle.book.specs.Answers.{Buffers}
use Rattle.book.specs.Gates.{◌⊕◌, ◌⊗◌, −◌, nought}
use Rattle.book.specs.Measuring.{square, summed, probability, one_over_root, measured, bad_chance, measure_call}
use Rattle.book.specs.State.{State, amplitude, at, bit}
use Rattle.book.specs.declared.Amplitude.{Amplitude}
use Rattle.book.specs.declared.Forced.{Forced}
use Rattle.book.proofs.Tables.{held_same}

cond_same : {A : Type 0} (k : Bool) {x x' y y' : A} → (k ≡ true → x ≡ x') → (k ≡ false → y ≡ y') → cond k x y ≡ cond k x' y'
cond_same true f g = f refl
cond_same false f g = g refl

summed_same : (t o : ℕ) (s s' : State) (size : ℕ) → ((i : ℕ) → i < size → bit t i ≡ o → square (s i) ≡ square (s' i)) → summed t o s size ≡ summed t o s' size
unfolding summed
summed_same t o s s' zero h = refl
summed_same t o s s' (suc i) h =
    let so_far = summed_same t o s s' i (λ j l e. h j (omega arith) e) in
    cond_same (eqb (bit t i) o) (λ e. ap₂ ◌⊕◌ so_far (h i (omega arith) (eqb-true (bit t i) o e))) (λ e. so_far)

-- ---- the other half

module _ (n t : ℕ) (forced : Forced) (b b' : Buffers) (same : (i : ℕ) → i < 2 ^ n → bit t i ≡ forced.outcome → at b i ≡ at b' i) where
  chance_same : probability n t forced.outcome (at b) ≡ probability n t forced.outcome (at b')
  unfolding probability
  chance_same = summed_same t forced.outcome (at b) (at b') (2 ^ n) (λ i l e. ap square (same i l e))

  left_same : measured n t forced.outcome b ≡ measured n t forced.outcome b'
  unfolding measured
  left_same =
      held_same (2 ^ n) _ _
      (λ i l. cond_same (eqb (bit t i) forced.outcome)
      (λ e. ap₂ (λ (p : Float) (z : Amplitude). let r = one_over_root p in amplitude (z.re ⊗ r) (z.im ⊗ r)) chance_same (same i l (eqb-true _ _ e)))
      (λ e. refl))

  -- buffers that agree in the half of the outcome are measured alike
  pub other_half : measure_call n t forced b ≡ measure_call n t forced b'
  other_half = rw (chance_same, left_same)

-- ---- a half of zeros

-- 0.0 or -0.0
abbrev pub IsZero : Float → Type 0
IsZero x = (x ≡ nought) ⊎ (x ≡ − nought)

zero_square : {x : Float} → IsZero x → x ⊗ x ≡ nought
unfolding mul neg
zero_square = ⊎_elim (λ e. ap (λ (y : Float). y ⊗ y) e) (λ e. ap (λ (y : Float). y ⊗ y) e)

no_square : (t o size : ℕ) → summed t o (λ i. amplitude nought nought) size ≡ nought
unfolding summed add mul
no_square t o zero = refl
no_square t o (suc i) = ap (λ (x : Float). cond (eqb (bit t i) o) (x ⊕ nought) x) (no_square t o i) ∙ by (eqb (bit t i) o)
  where
    by : (k : Bool) → cond k (nought ⊕ nought) nought ≡ nought
    by true = refl
    by false = refl

pub half_of_zeros : (n t o : ℕ) (b : Buffers) → ((i : ℕ) → i < 2 ^ n → bit t i ≡ o → IsZero (at b i).re × IsZero (at b i).im)
    → bad_chance (probability n t o (at b)) ≡ true
unfolding probability lt mul
half_of_zeros n t o b zeros =
    ap bad_chance
    (summed_same t o (at b) (λ i. amplitude nought nought) (2 ^ n)
    (λ i l e. let (re, im) = zeros i l e in ap₂ ◌⊕◌ (zero_square re) (zero_square im))
    ∙ no_square t o (2 ^ n))
