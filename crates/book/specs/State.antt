-- Which places a target and its controls choose, and the state after a gate, place by place. Definitions only. Assumes nothing.
use Rattle.std.specs.Prelude.{ℕ, zero, suc, ◌+◌, ◌-◌, ◌/◌, ◌%◌, ◌^◌, Bool, true, false, List, [], ◌∷◌, eqb, Float, get_or}
use Rattle.std.specs.Int.Bits.{bit_and}
use Rattle.std.specs.Float.{nan}
use Rattle.book.specs.Answers.{Buffers, buffers}
use Rattle.book.specs.declared.Amplitude.{Amplitude}
use Rattle.book.specs.declared.Controls.{Controls}
use Rattle.book.specs.declared.Pair.{Pair}

-- ---- a state: the amplitude at each index

abbrev pub State : Type 0
State = ℕ → Amplitude

abbrev pub amplitude : Float → Float → Amplitude
amplitude x y = record { re = x; im = y }

-- the state that two buffers hold; past their end both numbers are NaN
abbrev pub at : Buffers → State
at b i = amplitude (get_or b.reals i nan) (get_or b.imags i nan)

-- f from, f (from + 1), .. : count of them
unfoldable pub tabulate : {A : Type 0} → (ℕ → A) → ℕ → ℕ → List A
tabulate f from zero = []
tabulate f from (suc count) = f from ∷ tabulate f (suc from) count

-- the buffers that hold the first size places of a state
unfoldable pub held : ℕ → State → Buffers
unfolding tabulate
held size s = buffers (tabulate (λ i. (s i).re) 0 size) (tabulate (λ i. (s i).im) 0 size)

-- ---- which places are chosen

-- the controls of a mask, and none
abbrev pub controlled : ℕ → Controls
controlled mask = record { ones = mask }

abbrev pub uncontrolled : Controls
uncontrolled = controlled 0

-- bit q of i
abbrev pub bit : ℕ → ℕ → ℕ
bit q i = i / 2 ^ q % 2

-- the mask bits are all 1 in i
unfoldable pub chosen : Controls → ℕ → Bool
chosen controls i = eqb (bit_and i controls.ones) controls.ones

-- What a place is: in no pair that changes, s0 of such a pair, or s1. The target is no control, so both places of a pair are chosen or none.
pub data Choice : Type 0 where
  neither lower upper : Choice

abbrev pub half : Bool → ℕ → Choice
half false b = neither
half true zero = lower
half true (suc b) = upper

unfoldable pub choice : ℕ → Controls → ℕ → Choice
choice target controls i = half (chosen controls i) (bit target i)

-- ---- the state after a gate

abbrev pub pair : Amplitude → Amplitude → Pair
pair a c = record { s0 = a; s1 = c }

-- the place i, where the two places of a pair are d apart
abbrev pub place_by : Choice → (Pair → Pair) → State → ℕ → ℕ → Amplitude
place_by neither rule s d i = s i
place_by lower rule s d i = (rule (pair (s i) (s (i + d)))).s0
place_by upper rule s d i = (rule (pair (s (i - d)) (s i))).s1

-- the rule put to each chosen pair: s1 = s0 + 2 ^ target
unfoldable pub placed : (Pair → Pair) → ℕ → Controls → State → State
placed rule target controls s i = place_by (choice target controls i) rule s (2 ^ target) i

-- the buffers of n qubits after it
unfoldable pub on_pairs : (Pair → Pair) → ℕ → ℕ → Controls → Buffers → Buffers
unfolding held placed
on_pairs rule n target controls b = held (2 ^ n) (placed rule target controls (at b))
