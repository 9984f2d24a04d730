-- What the conjugate transpose leaves when it has gone so far. Definitions only. Assumes nothing.
use Rattle.std.specs.Prelude.{ℕ, ◌+◌, ◌*◌, ◌/◌, ◌%◌, ◌≤◌, ◌<◌, ◌⊎◌, ◌≡◌}
use Rattle.book.specs.Answers.{Buffers}
use Rattle.book.specs.Lent.{SameSize}
use Rattle.book.specs.Matrices.{conjugate}
use Rattle.book.specs.State.{at}

-- the place with row and column exchanged
unfoldable pub mirror : ℕ → ℕ → ℕ
mirror side place = place % side * side + place / side

-- two places, or one, exchanged and negated
pub record Crossed (i j : ℕ) (b b' : Buffers) : Type 0 where
  pub size : SameSize b b'
  pub one : at b' i ≡ conjugate (at b j)
  pub other : at b' j ≡ conjugate (at b i)
  pub others : (k : ℕ) → (k ≡ i → ⊥) → (k ≡ j → ⊥) → at b' k ≡ at b k

-- a place, with its mirror, unless the mirror came before it
pub record TurnedAt (side place : ℕ) (b b' : Buffers) : Type 0 where
  pub before : mirror side place < place → b' ≡ b
  pub now : place ≤ mirror side place → Crossed place (mirror side place) b b'

-- the places below `upto` and their mirrors
pub record Turned (side upto : ℕ) (b b' : Buffers) : Type 0 where
  pub size : SameSize b b'
  pub done : (k : ℕ) → k < side * side → (k < upto) ⊎ (mirror side k < upto) → at b' k ≡ conjugate (at b (mirror side k))
  pub rest : (k : ℕ) → upto ≤ k → upto ≤ mirror side k → at b' k ≡ at b k
