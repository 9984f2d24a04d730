-- A product, refused or taken: what its tests showed, and what its loops filled, give the contract. Assumes nothing.
use Prim.Native.Nat.{ℕ, ◌*◌, ◌^◌, ◌≤◌}
use mathlib.Core.Bool.{Bool, ◌||◌}
use mathlib.Core.List.{[], ◌∷◌}
use mathlib.Core.Path.{◌≡◌, refl, ap, ◌∙◌, subst}
use Rattle.std.specs.Prelude.{None, Ok, Err}
use Rattle.book.proofs.Refusals.{neither, right_lengths}
use Rattle.book.specs.Answers.{◌⇒◌, Buffers, Call, call, Outcome, outcome_of, Does}
use Rattle.book.specs.Kernels.{bad_length}
use Rattle.book.specs.Matrices as Book
use Rattle.book.specs.Matrices.{held_dense, product_tests}
use Rattle.book.specs.State.{State, held}
use Rattle.book.specs.declared.Refusal.{Refusal}
use Rattle.matrices.proofs.Fills.{whole}
use Rattle.matrices.proofs.Judged.{side_le, size_refused, size_passed, not_long, held_places}
use Rattle.matrices.specs.Filled.{Holds, Filled}
use Rattle.matrices.specs.Sided.{Sided}
use Rattle.seated.proofs.Judged.{works, keeps}
use Rattle.seated.specs.Judging.{Ruling, Judges}
use Rattle.dots.specs.Dots.{state_dot}
use Rattle.row_sums.specs.Sums.{row_dot, product_at}

-- ---- both products: a square matrix, and a second factor and an output of a size that the side gives

module _ (size : ℕ → ℕ) (n : ℕ) (aa bb b : Buffers) where
  abbrev long : ℕ → Bool
  long side = bad_length (side * side) aa || bad_length (size side) bb || bad_length (size side) b

  -- what the loops ask
  pub ready : {side : ℕ} → Sided n (Ok side) → {u : Unit} → Judges (long side ⇒ 2 ∷ []) (Ok u)
      → (side ≤ 64) × Holds (side * side) aa × Holds (size side) bb × Holds (size side) b
  ready {side} s j =
      let (e, z) = neither (bad_length (side * side) aa || bad_length (size side) bb) (bad_length (size side) b) (not_long j) in
      let (x, y) = neither (bad_length (side * side) aa) (bad_length (size side) bb) e in
      (side_le n s, held_places (side * side) aa x, held_places (size side) bb y, held_places (size side) b z)

module _ (size : ℕ → ℕ) (n : ℕ) (aa bb b left : Buffers) where
  abbrev work : Call
  work = call [] None left

  abbrev pub outcome : Outcome
  outcome = outcome_of (product_tests (size (2 ^ n)) n aa bb b) b work

  abbrev too_long : ℕ → Bool
  too_long = long size n aa bb b

  pub product_size : {r : Refusal} → Sided n (Err r) → Does outcome (Err r) b
  unfolding product_tests
  product_size s = keeps (product_tests (size (2 ^ n)) n aa bb b) b work (size_refused n (too_long (2 ^ n) ⇒ 2 ∷ []) s)

  module _ {side : ℕ} (s : Sided n (Ok side)) where
    judged : {r : Ruling} → Judges (too_long side ⇒ 2 ∷ []) r → Judges (product_tests (size (2 ^ n)) n aa bb b) r
    unfolding product_tests
    judged {r} j = size_passed n (too_long (2 ^ n) ⇒ 2 ∷ []) s (subst (λ (k : ℕ). Judges (too_long k ⇒ 2 ∷ []) r) s.1 j)

    pub product_length : {r : Refusal} → Judges (too_long side ⇒ 2 ∷ []) (Err r) → Does outcome (Err r) b
    unfolding product_tests
    product_length j = keeps (product_tests (size (2 ^ n)) n aa bb b) b work (judged j)

    module _ {u : Unit} (j : Judges (too_long side ⇒ 2 ∷ []) (Ok u)) where
      -- what the loops filled is the work
      pub done : (f : ℕ → State) {b' : Buffers} → Filled 0 (size side) (f side) b b' → held (size (2 ^ n)) (f (2 ^ n)) ≡ left → Does outcome (Ok None) b'
      unfolding product_tests
      done f {b'} w is =
          let at_side = subst (λ (k : ℕ). Filled 0 (size k) (f k) b b') s.1 w in
          let rows = bad_length (side * side) aa || bad_length (size side) bb in
          let (r, i) = right_lengths (size side) b (neither rows (bad_length (size side) b) (not_long j)).1 in
          works (product_tests (size (2 ^ n)) n aa bb b) b work (judged j) refl
          (whole at_side (r ∙ ap size s.1) (i ∙ ap size s.1) (λ k l. refl) ∙ is)

-- ---- a matrix times a matrix, and a matrix times a state

abbrev pub square : ℕ → ℕ
square side = side * side

abbrev pub line : ℕ → ℕ
line side = side

module _ (n : ℕ) (aa bb b : Buffers) {side : ℕ} (s : Sided n (Ok side)) {u : Unit} where
  pub product_filled : {b' : Buffers} → Judges ((bad_length (side * side) aa || bad_length (side * side) bb || bad_length (side * side) b) ⇒ 2 ∷ []) (Ok u)
      → Filled 0 (side * side) (product_at side aa bb) b b' → Does (Book.product n aa bb b) (Ok None) b'
  unfolding held_dense product_at row_dot
  product_filled j w = done square n aa bb b _ s j (λ k. product_at k aa bb) w refl

  pub state_filled : {b' : Buffers} → Judges ((bad_length (side * side) aa || bad_length side bb || bad_length side b) ⇒ 2 ∷ []) (Ok u)
      → Filled 0 side (λ row. state_dot aa (row * side) bb side) b b' → Does (Book.product_state n aa bb b) (Ok None) b'
  unfolding state_dot
  state_filled j w = done line n aa bb b _ s j (λ k row. state_dot aa (row * k) bb k) w refl
