-- What the loops of matrix calls ask and leave: a stretch of places was filled, and no other place changed. Definitions only. Assumes nothing.
use Rattle.std.specs.Prelude.{ℕ, ◌+◌, ◌≤◌, ◌<◌, ◌⊎◌, ◌≡◌, length}
use Rattle.book.specs.Answers.{Buffers}
use Rattle.book.specs.Lent.{SameSize}
use Rattle.book.specs.State.{State, at}

-- both buffers hold so many places
pub record Holds (count : ℕ) (b : Buffers) : Type 0 where
  pub reals : count ≤ length b.reals
  pub imags : count ≤ length b.imags

-- the count places from `from` on hold f 0, f 1, ..; the others are as they were
pub record Filled (from count : ℕ) (f : State) (b b' : Buffers) : Type 0 where
  pub size : SameSize b b'
  pub here : (j : ℕ) → j < count → at b' (from + j) ≡ f j
  pub others : (i : ℕ) → (i < from) ⊎ (from + count ≤ i) → at b' i ≡ at b i
