-- What is put of words into a buffer. Definitions only. Assumes nothing.
use Rattle.std.specs.Prelude.{ℕ, ◌+◌, min, List, ◌≡◌, length}
use Rattle.stores.specs.Stores.{store}

-- Words are put at a place of a buffer as far as it goes, and nothing else changes; the answer is the place behind them, or the buffer's end.
pub record Put (words before : List ℕ) (at next : ℕ) (after : List ℕ) : Type 0 where
  pub behind : next ≡ min (at + length words) (length before)
  pub stored : after ≡ store before at words
