-- What test 1 of a matrix call finds. Definitions only. Assumes nothing.
use Rattle.std.specs.Prelude.{ℕ, ◌^◌, true, false, ◌≡◌, Result, Ok, Err}
use Rattle.book.specs.Kernels.{bad_size}
use Rattle.book.specs.Matrices.{most_matrix}
use Rattle.book.specs.declared.Refusal.{Refusal}
use Rattle.book.specs.declared.Refusal.TheVariants.{Size}

-- the side of a matrix, or refusal 1
abbrev pub Sided : ℕ → Result ℕ Refusal → Type 0
Sided n (Ok side) = (bad_size most_matrix n ≡ false) × (side ≡ 2 ^ n)
Sided n (Err r) = (bad_size most_matrix n ≡ true) × (r ≡ Size)
