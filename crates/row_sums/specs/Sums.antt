-- The sums of products that the loops work out, place by place. Definitions only. Assumes nothing.
use Rattle.std.specs.Prelude.{ℕ, ◌+◌, ◌*◌, ◌/◌, ◌%◌, ◌≤◌}
use Rattle.book.specs.Answers.{Buffers}
use Rattle.book.specs.Matrices.{add_product, dot}
use Rattle.book.specs.State.{State, at}
use Rattle.book.specs.declared.Amplitude.{Amplitude}

-- a side of at most 64, and places that fit a matrix of that side
pub record Small (side places : ℕ) : Type 0 where
  pub most : side ≤ 64
  pub within : places ≤ 4096

-- one inner index more in each place of a row: a times what stands in B from `start` on
unfoldable pub row_sum : Buffers → ℕ → Amplitude → Buffers → ℕ → State
row_sum out from a b start j = add_product (at out (from + j)) a (at b (start + j))

-- the row of A·B that stands in A from `from` on, with the inner indices below `inner`
unfoldable pub row_dot : ℕ → ℕ → Buffers → Buffers → ℕ → State
row_dot side from a b inner j = dot (λ k. at a (from + k)) (λ k. at b (k * side + j)) inner

-- A·B, place by place
unfoldable pub product_at : ℕ → Buffers → Buffers → State
unfolding row_dot
product_at side a b place = row_dot side (place / side * side) a b side (place % side)
