-- A row of the product: begun, with one inner index more, and as a stretch of the whole. Assumes nothing.
use Prim.Native.Nat.{ℕ, ◌+◌, ◌*◌, ◌<◌}
use mathlib.Core.Logic.{inr}
use mathlib.Core.Path.{◌≡◌, refl, ap₂, ◌∙◌}
use native.Mathlib.Omega.{arith}
use lib.Arith.{digits_div, digits_mod}
use Rattle.book.specs.Answers.{Buffers}
use Rattle.book.specs.Gates.{nought}
use Rattle.book.specs.Matrices.{add_product}
use Rattle.book.specs.State.{amplitude, at}
use Rattle.book.specs.declared.Amplitude.{Amplitude}
use Rattle.matrices.proofs.Fills.{join, one_more, again, told, stands}
use Rattle.matrices.proofs.Sides.{next_row}
use Rattle.matrices.specs.Filled.{Filled}
use Rattle.summands.proofs.Dots.{dot_none, dot_more}
use Rattle.row_sums.specs.Sums.{row_sum, row_dot, product_at}

-- a row of the product is a stretch of it
row_of : (side row : ℕ) (a b : Buffers) (j : ℕ) → j < side → row_dot side (row * side) a b side j ≡ product_at side a b (row * side + j)
unfolding product_at
row_of side row a b j l = rw (digits_div row l, digits_mod row l)

-- ---- the turns of the loops

-- one place more of a row gets one inner index more
pub sum_more : (from j start : ℕ) (a : Amplitude) (b₀ b b' bb : Buffers) {s y z : Amplitude} → Filled from j (row_sum b₀ from a bb start) b₀ b
    → s ≡ at b (from + j) → y ≡ at bb (start + j) → z ≡ add_product s a y → Filled (from + j) 1 (λ k. z) b b'
    → Filled from (j + 1) (row_sum b₀ from a bb start) b₀ b'
unfolding row_sum
sum_more from j start a b₀ b b' bb inv p q r w =
    one_more refl inv w (r ∙ ap₂ (λ (x y : Amplitude). add_product x a y) (p ∙ inv.others (from + j) (inr (omega arith))) q)

-- a whole row starts at 0.0, and gets one inner index more
pub row_none : (side from : ℕ) (aa bb b₀ b : Buffers) → Filled from side (λ j. amplitude nought nought) b₀ b → Filled from side (row_dot side from aa bb 0) b b
unfolding row_dot
row_none side from aa bb b₀ b w = told (stands w) (λ j l. dot_none _ _)

pub row_more : (side from k : ℕ) (a : Amplitude) (aa bb b₀ b b' : Buffers) → Filled from side (row_dot side from aa bb k) b₀ b
    → a ≡ at aa (from + k) → Filled from side (row_sum b from a bb (k * side)) b b' → Filled from side (row_dot side from aa bb (k + 1)) b₀ b'
unfolding row_dot row_sum
row_more side from k a aa bb b₀ b b' inv p w = told (again inv w) (λ j l. dot_more _ _ k (inv.here j l) p refl)

-- one row more of the product
pub rows_more : (side row : ℕ) (aa bb b₀ b b' : Buffers) → Filled 0 (row * side) (product_at side aa bb) b₀ b
    → Filled (row * side) side (row_dot side (row * side) aa bb side) b b' → Filled 0 ((row + 1) * side) (product_at side aa bb) b₀ b'
rows_more side row aa bb b₀ b b' inv w = rw (← next_row) (join (omega arith) inv w (λ j l. row_of side row aa bb j l))
