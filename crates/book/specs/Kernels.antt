-- Gates on pairs, SWAP and bit flip over two lent buffers: their tests, 1 to 6 in order, and what they leave. Definitions only. Assumes nothing.
use Rattle.std.specs.Prelude.{ℕ, ◌+◌, ◌-◌, ◌*◌, ◌^◌, Bool, not, cond, ◌||◌, List, [], ◌∷◌, ◌++◌, eqb, leb, ltb, length, Some, None}
use Rattle.std.specs.Int.Count.{ones}
use Rattle.std.specs.Float.Ieee as Ieee
use Rattle.book.specs.Answers.{Test, ◌⇒◌, Buffers, Call, call}
use Rattle.book.specs.Gates.{x_rule, noise_of, finite_tests}
use Rattle.book.specs.State.{at, held, bit, uncontrolled, on_pairs}
use Rattle.book.specs.declared.Controls.{Controls}
use Rattle.book.specs.declared.Noise.{Noise}
use Rattle.book.specs.declared.Pair.{Pair}

-- ---- the size: 1 and 2

-- 1: n is outside its range, 1 to most
abbrev pub bad_size : ℕ → ℕ → Bool
bad_size most n = ltb n 1 || ltb most n

-- 2: a buffer is not of exactly the length asked
abbrev pub bad_length : ℕ → Buffers → Bool
bad_length size b = not (eqb (length b.reals) size) || not (eqb (length b.imags) size)

-- n for kernels and sessions
abbrev pub most_qubits : ℕ
most_qubits = 24

unfoldable pub size_tests : ℕ → Buffers → List Test
size_tests n b = bad_size most_qubits n ⇒ 1 ∷ bad_length (2 ^ n) b ⇒ 2 ∷ []

-- ---- a gate on pairs: its seat, 3 to 5, and then its own tests

-- 3: a bit of the control mask is n or more
abbrev pub outside : ℕ → Controls → Bool
outside n controls = leb (2 ^ n) controls.ones

-- 4: the target's bit is in the control mask
abbrev pub clash : ℕ → Controls → Bool
clash target controls = eqb (bit target controls.ones) 1

-- 5: how many controls there are
abbrev pub count : Controls → ℕ
count controls = ones controls.ones

unfoldable pub seat_tests : ℕ → ℕ → ℕ → Controls → List Test
seat_tests most n target controls =
    (leb n target || outside n controls) ⇒ 3
    ∷ clash target controls ⇒ 4
    ∷ ltb most (count controls) ⇒ 5
    ∷ []

-- the rule put to the chosen pairs, for a gate that takes so many controls and has these tests of its own
abbrev pub pair_call : (Pair → Pair) → ℕ → List Test → ℕ → ℕ → Controls → Buffers → Call
pair_call rule most own n target controls b = call (seat_tests most n target controls ++ own) None (on_pairs rule n target controls b)

-- ---- SWAP

-- i with the bits t0 and t1 exchanged
abbrev pub exchanged : ℕ → ℕ → ℕ → ℕ
exchanged t0 t1 i = i + bit t1 i * 2 ^ t0 + bit t0 i * 2 ^ t1 - (bit t0 i * 2 ^ t0 + bit t1 i * 2 ^ t1)

-- amplitudes exchanged whose indices differ by exchanging these bits
unfoldable pub swapped : ℕ → ℕ → ℕ → Buffers → Buffers
unfolding held
swapped n t0 t1 b = held (2 ^ n) (λ i. at b (exchanged t0 t1 i))

abbrev pub swap_call : ℕ → ℕ → ℕ → Buffers → Call
swap_call n t0 t1 b = call ((leb n t0 || leb n t1) ⇒ 3 ∷ []) None (swapped n t0 t1 b)

-- ---- bit flip: X without controls if draw <= prob, else nothing; the answer is 1 if X ran, 0 if not

abbrev pub bit_flip_call : ℕ → ℕ → Noise → Buffers → Call
bit_flip_call n target noise b =
    let ran = Ieee.le noise.draw noise.prob in
    call (leb n target ⇒ 3 ∷ finite_tests (noise_of noise)) (Some (cond ran 1 0)) (cond ran (on_pairs x_rule n target uncontrolled b) b)
