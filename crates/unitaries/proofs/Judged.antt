-- A gate's matrix and a transposition, refused or taken: what the tests showed, and what the loop left, give the contract. Assumes nothing.
use Prim.Native.Nat.{ℕ, ◌*◌, ◌/◌, ◌%◌, ◌^◌, ◌≤◌, ◌<◌}
use mathlib.Core.List.{List, [], ◌∷◌, ◌++◌}
use mathlib.Core.Path.{refl, ◌∙◌}
use native.Mathlib.Nat.{lt_of_lt_of_le}
use borrow.Author.Tests.{le-leb, lt-leb}
use lib.Dec.{leb}
use Rattle.std.specs.Prelude.{None, Ok, Err}
use Rattle.book.proofs.Refusals.{right_lengths}
use Rattle.book.specs.Answers.{Test, ◌⇒◌, first, Buffers, Call, call, Does}
use Rattle.book.specs.Gates.{finite_tests}
use Rattle.book.specs.Kernels.{bad_length}
use Rattle.book.specs.Matrices.{entries, held_dense, numbers_of, matrix_tests, crossing, gate_matrix, conjugate_transpose}
use Rattle.book.specs.declared.Matrix.{Matrix}
use Rattle.book.specs.declared.Refusal.{Refusal}
use Rattle.book.specs.declared.Refusal.TheVariants.{Qubit}
use Rattle.seated.proofs.Judged.{judged_behind, judged_stays, none_judged, keeps, works}
use Rattle.seated.specs.Judging.{Ruling, Judges}
use Rattle.matrices.proofs.Fills.{whole}
use Rattle.matrices.proofs.Judged.{most_is, side_le, side_some, size_refused, size_passed, not_long, held_places}
use Rattle.matrices.specs.Filled.{Holds, Filled}
use Rattle.matrices.specs.Sided.{Sided}
use Rattle.transposes.specs.Mirrored.{mirror, Turned}
use Rattle.transposes.proofs.Mirrors.{turned_whole}

-- ---- tests 1 and 2 of a matrix, and then the rest

module _ (n : ℕ) (b : Buffers) (rest : List Test) where
  size_stops : {r : Refusal} → Sided n (Err r) → Judges (matrix_tests (entries n) n b ++ rest) (Err r)
  unfolding matrix_tests
  size_stops = size_refused n (bad_length (entries n) b ⇒ 2 ∷ rest)

  module _ {side : ℕ} (s : Sided n (Ok side)) where
    length_stops : {r : Refusal} → Judges (bad_length (side * side) b ⇒ 2 ∷ []) (Err r) → Judges (matrix_tests (entries n) n b ++ rest) (Err r)
    unfolding matrix_tests
    length_stops j =
        size_passed n (bad_length (entries n) b ⇒ 2 ∷ rest) s (judged_stays (bad_length (entries n) b ⇒ 2 ∷ []) rest tt (rw s.1 at j))

    then_rest : {u : Unit} {r : Ruling} → Judges (bad_length (side * side) b ⇒ 2 ∷ []) (Ok u) → Judges rest r
        → Judges (matrix_tests (entries n) n b ++ rest) r
    unfolding matrix_tests
    then_rest j k =
        size_passed n (bad_length (entries n) b ⇒ 2 ∷ rest) s (judged_behind (bad_length (entries n) b ⇒ 2 ∷ []) rest tt (rw s.1 at j) k)

-- ---- a gate's matrix

module _ (m : Matrix) (n target : ℕ) (b : Buffers) where
  abbrev own : List Test
  own = finite_tests (numbers_of m)

  abbrev work : Call
  work = call (leb n target ⇒ 3 ∷ own) None (held_dense n (crossing m target))

  pub gate_size : {r : Refusal} → Sided n (Err r) → Does (gate_matrix m n target b) (Err r) b
  gate_size s = keeps (matrix_tests (entries n) n b) b work (size_stops n b work.tests s)

  module _ {side : ℕ} (s : Sided n (Ok side)) where
    pub gate_length : {r : Refusal} → Judges (bad_length (side * side) b ⇒ 2 ∷ []) (Err r) → Does (gate_matrix m n target b) (Err r) b
    gate_length j = keeps (matrix_tests (entries n) n b) b work (length_stops n b work.tests s j)

    module _ {u : Unit} (j : Judges (bad_length (side * side) b ⇒ 2 ∷ []) (Ok u)) where
      pub gate_far : n ≤ target → Does (gate_matrix m n target b) (Err Qubit) b
      unfolding first
      gate_far l =
          keeps (matrix_tests (entries n) n b) b work (then_rest n b work.tests s j (record { is = rw (le-leb n target l) }))

      module _ (l : target < n) where
        -- 6 behind 3
        last : {r : Ruling} → Judges own r → Judges (matrix_tests (entries n) n b ++ work.tests) r
        unfolding first
        last k = then_rest n b work.tests s j (record { is = k.is ∙ (rw (lt-leb n target l)) })

        pub gate_number : {r : Refusal} → Judges own (Err r) → Does (gate_matrix m n target b) (Err r) b
        gate_number k = keeps (matrix_tests (entries n) n b) b work (last k)

        pub gate_ready : (target < 6) × (1 ≤ side) × (side ≤ 64) × Holds (side * side) b
        gate_ready = (lt_of_lt_of_le l (most_is n s.0), side_some n s, side_le n s, held_places (side * side) b (not_long j))

        pub gate_filled : {v : Unit} {b' : Buffers} → Judges own (Ok v)
            → Filled 0 (side * side) (λ k. crossing m target (k / side) (k % side)) b b' → Does (gate_matrix m n target b) (Ok None) b'
        unfolding held_dense
        gate_filled k w =
            let (p, q) = right_lengths (entries n) b (rw s.1 at (not_long j)) in
            works (matrix_tests (entries n) n b) b work (last k) refl (whole (rw s.1 at w) p q (λ i l. refl))

-- ---- a transposition

module _ (n : ℕ) (b : Buffers) where
  pub transpose_size : {r : Refusal} → Sided n (Err r) → Does (conjugate_transpose n b) (Err r) b
  transpose_size s = keeps (matrix_tests (entries n) n b) b _ (size_stops n b [] s)

  module _ {side : ℕ} (s : Sided n (Ok side)) where
    pub transpose_length : {r : Refusal} → Judges (bad_length (side * side) b ⇒ 2 ∷ []) (Err r) → Does (conjugate_transpose n b) (Err r) b
    transpose_length j = keeps (matrix_tests (entries n) n b) b _ (length_stops n b [] s j)

    module _ {u : Unit} (j : Judges (bad_length (side * side) b ⇒ 2 ∷ []) (Ok u)) where
      pub transpose_ready : (side ≤ 64) × Holds (side * side) b
      transpose_ready = (side_le n s, held_places (side * side) b (not_long j))

      pub turned_filled : {b' : Buffers} → Turned side (side * side) b b' → Does (conjugate_transpose n b) (Ok None) b'
      unfolding held_dense mirror
      turned_filled {b'} w =
          let (p, q) = right_lengths (entries n) b (rw s.1 at (not_long j)) in
          works (matrix_tests (entries n) n b) b _ (then_rest n b [] s j none_judged) refl (turned_whole (2 ^ n) b b' (rw s.1 at w) p q)
