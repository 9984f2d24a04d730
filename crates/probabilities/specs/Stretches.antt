-- Stretches of places of both buffers, and the sum over one. Definitions only. Assumes nothing.
use Rattle.std.specs.Prelude.{ℕ, zero, suc, ◌+◌, ◌≤◌, Float, length}
use Rattle.book.specs.Answers.{Buffers}
use Rattle.book.specs.Gates.{◌⊕◌}
use Rattle.book.specs.Measuring.{square}
use Rattle.book.specs.State.{State}

-- from `from` on and below `to`
pub record Stretch (from to : ℕ) (b : Buffers) : Type 0 where
  pub order : from ≤ to
  pub reals : to ≤ length b.reals
  pub imags : to ≤ length b.imags

-- to start, the squares of so many places from `from` on, rising
unfoldable pub added : State → ℕ → Float → ℕ → Float
added s from start zero = start
added s from start (suc k) = added s from start k ⊕ square (s (from + k))
