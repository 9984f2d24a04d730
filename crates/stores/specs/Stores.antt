-- Bytes stored in a list. Definitions only. Assumes nothing.
use Rattle.std.specs.Prelude.{ℕ, ◌+◌, List, ◌≡◌, length}
use Rattle.std.proofs.lemmas.List.Edits.{sets}

-- a list with bytes stored from a place on
unfoldable pub store : List ℕ → ℕ → List ℕ → List ℕ
store l at bs = sets l at bs

-- bytes were stored at a place, and nothing else changed; the answer is the place behind them
pub record Stored (bs before : List ℕ) (at next : ℕ) (after : List ℕ) : Type 0 where
  pub behind : next ≡ at + length bs
  pub stored : after ≡ store before at bs
