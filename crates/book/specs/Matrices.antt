-- Dense matrices of side 2 ^ n, n from 1 to 6, real and imaginary parts in two buffers, row by row. Definitions only. Assumes nothing.
use Rattle.std.specs.Prelude.{ℕ, zero, suc, ◌+◌, ◌-◌, ◌*◌, ◌/◌, ◌%◌, ◌^◌, cond, ◌||◌, List, [], ◌∷◌, ◌++◌, eqb, leb, Float, None}
use Rattle.book.specs.Answers.{Test, ◌⇒◌, Buffers, Outcome, call, outcome_of}
use Rattle.book.specs.Gates.{◌⊕◌, ◌⊖◌, ◌⊗◌, −◌, nought, entry, finite_tests}
use Rattle.book.specs.Kernels.{bad_size, bad_length}
use Rattle.book.specs.State.{amplitude, at, held, bit}
use Rattle.book.specs.declared.Amplitude.{Amplitude}
use Rattle.book.specs.declared.Matrix.{Matrix}

-- n for matrices
abbrev pub most_matrix : ℕ
most_matrix = 6

-- how many entries a matrix has
abbrev pub entries : ℕ → ℕ
entries n = 2 ^ n * 2 ^ n

-- a matrix: the entry at each row and column; the place k of a buffer is row k / side, column k % side
abbrev pub Dense : Type 0
Dense = ℕ → ℕ → Amplitude

abbrev pub dense : ℕ → Buffers → Dense
dense n b row column = at b (row * 2 ^ n + column)

unfoldable pub held_dense : ℕ → Dense → Buffers
unfolding held
held_dense n m = held (entries n) (λ k. m (k / 2 ^ n) (k % 2 ^ n))

-- ---- from four amplitudes and a target: those at the pairs' crossings, 0.0 elsewhere

-- an index without its target bit: the two places of a pair share it
abbrev pub without_target : ℕ → ℕ → ℕ
without_target target i = i - bit target i * 2 ^ target

abbrev pub crossing : Matrix → ℕ → Dense
crossing m target row column =
    cond (eqb (without_target target row) (without_target target column))
    (entry m (2 * bit target row + bit target column))
    (amplitude nought nought)

-- the numbers of the four amplitudes
abbrev pub parts : Amplitude → List Float
parts z = z.re ∷ z.im ∷ []

abbrev pub numbers_of : Matrix → List Float
numbers_of m = parts (entry m 0) ++ parts (entry m 1) ++ parts (entry m 2) ++ parts (entry m 3)

-- 1 and 2
unfoldable pub matrix_tests : ℕ → ℕ → Buffers → List Test
matrix_tests size n b = bad_size most_matrix n ⇒ 1 ∷ bad_length size b ⇒ 2 ∷ []

abbrev pub gate_matrix : Matrix → ℕ → ℕ → Buffers → Outcome
gate_matrix m n target out =
    outcome_of (matrix_tests (entries n) n out) out
    (call (leb n target ⇒ 3 ∷ finite_tests (numbers_of m)) None (held_dense n (crossing m target)))

-- ---- conjugate transpose in place: every imaginary part negated, then transposed

abbrev pub conjugate : Amplitude → Amplitude
conjugate z = amplitude z.re (− z.im)

abbrev pub conjugate_transpose : ℕ → Buffers → Outcome
conjugate_transpose n b =
    outcome_of (matrix_tests (entries n) n b) b
    (call [] None (held_dense n (λ row column. conjugate (dense n b column row))))

-- ---- products: sums start at 0.0 and run by rising inner index

-- adding ar·br-ai·bi and ar·bi+ai·br
abbrev pub add_product : Amplitude → Amplitude → Amplitude → Amplitude
add_product sum a b =
    amplitude
    (sum.re ⊕ (a.re ⊗ b.re ⊖ a.im ⊗ b.im))
    (sum.im ⊕ (a.re ⊗ b.im ⊕ a.im ⊗ b.re))

unfoldable pub dot : (ℕ → Amplitude) → (ℕ → Amplitude) → ℕ → Amplitude
dot a b zero = amplitude nought nought
dot a b (suc inner) = add_product (dot a b inner) (a inner) (b inner)

-- a matrix A, and a second factor and an output of one size
unfoldable pub product_tests : ℕ → ℕ → Buffers → Buffers → Buffers → List Test
product_tests size n a b out =
    bad_size most_matrix n ⇒ 1 ∷ (bad_length (entries n) a || bad_length size b || bad_length size out) ⇒ 2 ∷ []

-- A·B, with A given first
abbrev pub product : ℕ → Buffers → Buffers → Buffers → Outcome
product n a b out =
    outcome_of (product_tests (entries n) n a b out) out
    (call [] None (held_dense n (λ row column. dot (dense n a row) (λ inner. dense n b inner column) (2 ^ n))))

-- A and a state
abbrev pub product_state : ℕ → Buffers → Buffers → Buffers → Outcome
product_state n a state out =
    outcome_of (product_tests (2 ^ n) n a state out) out
    (call [] None (held (2 ^ n) (λ row. dot (dense n a row) (at state) (2 ^ n))))
