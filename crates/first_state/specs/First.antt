-- The state that the program begins with. Definitions only. Assumes nothing.
use Rattle.std.specs.Prelude.{ℕ, ◌-◌, ◌^◌, ◌∷◌, replicate}
use Rattle.book.specs.Answers.{Buffers}
use Rattle.book.specs.Examples.{real}

-- real 1 at index 0, in n qubits
abbrev pub first_state : ℕ → Buffers
first_state n = real (1 ∷ replicate (2 ^ n - 1) 0)
