-- What the engine asks of its caller: all that is read at an index is there. Definitions only. Assumes nothing.
use Rattle.std.specs.Prelude.{ℕ, ◌^◌, ◌≤◌, ◌<◌, ◌≡◌, length}
use Rattle.book.specs.Answers.{Buffers}

-- a state of n qubits
pub record Sized (n : ℕ) (b : Buffers) : Type 0 where
  pub fits : n ≤ 24
  pub reals : length b.reals ≡ 2 ^ n
  pub imags : length b.imags ≡ 2 ^ n

-- an index of such a state, and two of its qubits
pub record Reaches (target second : ℕ) (b : Buffers) (i : ℕ) : Type 0 where
  pub n : ℕ
  pub sized : Sized n b
  pub one : target < n
  pub two : second < n
  pub inside : i < 2 ^ n
