-- Forced measurement: the probabilities, tests 1, 2, 3, 6 and 7, and what it leaves. Definitions only. Assumes nothing.
use Rattle.std.specs.Prelude.{ℕ, zero, suc, ◌^◌, Bool, not, cond, ◌&&◌, ◌||◌, [], ◌∷◌, eqb, leb, Float, Some}
use Rattle.std.specs.Float.Ieee as Ieee
use Rattle.std.specs.Float.{binary64}
use Rattle.std.specs.Float.Ieee.Scale.{finite}
use Rattle.numbers.specs.Fused as Fused
use Rattle.book.specs.Answers.{◌⇒◌, Buffers, Call, call}
use Rattle.book.specs.Gates.{◌⊕◌, ◌⊗◌, nought, one, x_rule}
use Rattle.book.specs.State.{State, amplitude, at, held, bit, uncontrolled, on_pairs}
use Rattle.book.specs.declared.Amplitude.{Amplitude}
use Rattle.book.specs.declared.Forced.{Forced}

-- xx+yy: two products, one sum
abbrev pub square : Amplitude → Float
square z = z.re ⊗ z.re ⊕ z.im ⊗ z.im

-- from 0.0, the squares at the indices below size whose target bit is b, rising
unfoldable pub summed : ℕ → ℕ → State → ℕ → Float
summed target b s zero = nought
summed target b s (suc i) = let so_far = summed target b s i in cond (eqb (bit target i) b) (so_far ⊕ square (s i)) so_far

-- p0 and p1
unfoldable pub probability : ℕ → ℕ → ℕ → State → Float
probability n target outcome s = summed target outcome s (2 ^ n)

-- the chosen half is multiplied by r, and the other half becomes +0.0
abbrev pub collapsed : ℕ → ℕ → Float → State → State
collapsed target outcome r s i = cond (eqb (bit target i) outcome) (amplitude ((s i).re ⊗ r) ((s i).im ⊗ r)) (amplitude nought nought)

-- r = 1/root(p)
abbrev pub one_over_root : Float → Float
one_over_root p = Ieee.div binary64 one (Fused.root binary64 p)

unfoldable pub measured : ℕ → ℕ → ℕ → Buffers → Buffers
unfolding held
measured n target outcome b = held (2 ^ n) (collapsed target outcome (one_over_root (probability n target outcome (at b))) (at b))

-- 6: outcome or reset is neither 0 nor 1
abbrev pub bad_forced : Forced → Bool
bad_forced forced = leb 2 forced.outcome || leb 2 forced.reset

-- 7: the probability is NaN, infinite, zero or negative
abbrev pub bad_chance : Float → Bool
bad_chance p = not (finite p && Ieee.lt nought p)

-- If the outcome is 1 and reset is 1, X follows. The answer is the outcome.
abbrev pub measure_call : ℕ → ℕ → Forced → Buffers → Call
measure_call n target forced b =
    let after = measured n target forced.outcome b in
    call
    (leb n target ⇒ 3 ∷ bad_forced forced ⇒ 6 ∷ bad_chance (probability n target forced.outcome (at b)) ⇒ 7 ∷ [])
    (Some forced.outcome)
    (cond (eqb forced.outcome 1 && eqb forced.reset 1) (on_pairs x_rule n target uncontrolled after) after)
