-- The sum that a row of A times a state comes to. Definitions only. Assumes nothing.
use Rattle.std.specs.Prelude.{ℕ, ◌+◌}
use Rattle.book.specs.Answers.{Buffers}
use Rattle.book.specs.Matrices.{dot}
use Rattle.book.specs.State.{at}
use Rattle.book.specs.declared.Amplitude.{Amplitude}

-- the row that stands in A from `from` on, with the inner indices below `inner`
unfoldable pub state_dot : Buffers → ℕ → Buffers → ℕ → Amplitude
state_dot a from state inner = dot (λ k. at a (from + k)) (λ k. at state k) inner
