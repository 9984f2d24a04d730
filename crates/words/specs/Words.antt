-- What stands in a line: numbers in decimal, an f64's bits, a mark; and where words and lines stand. Definitions only. Assumes nothing.
use Rattle.std.specs.Prelude.{ℕ, zero, suc, ◌+◌, ◌/◌, ◌%◌, ◌≤◌, cond, List, [], ◌∷◌, ◌++◌, ◌≡◌, ltb, Float, length, drop}
use Rattle.std.specs.Float.{binary64}
use Rattle.std.specs.Float.Ieee.{to_bits}
use Rattle.io.specs.Counts.{IsPrefixLen}
use Rattle.io.specs.Digits.{hex_digit_ascii, last_digits}
use Rattle.stores.specs.Stores.{store}

-- a number in decimal digits, the fewest that hold it, for numbers of at most so many
abbrev pub decimal_in : ℕ → ℕ → List ℕ
decimal_in zero n = []
decimal_in (suc k) n = cond (ltb n 10) (hex_digit_ascii n ∷ []) (decimal_in k (n / 10) ++ (hex_digit_ascii (n % 10) ∷ []))

-- a u64 has at most 20 digits
unfoldable pub decimal : ℕ → List ℕ
decimal n = decimal_in 20 n

-- the bits of an f64 in 16 hex digits; a NaN's are 7ff8000000000000
unfoldable pub bits : Float → List ℕ
bits x = last_digits 16 16 (to_bits binary64 x)

-- a mark in 8 hex digits
unfoldable pub mark_digits : ℕ → List ℕ
mark_digits mark = last_digits 16 8 mark

-- ---- where they stand

-- words were put at a place of a buffer, and nothing else changed; the answer is the place behind them, at most so far on
pub record Added (words : List ℕ) (room : ℕ) (before : List ℕ) (at next : ℕ) (after : List ℕ) : Type 0 where
  pub behind : next ≡ at + length words
  pub most : length words ≤ room
  pub stored : after ≡ store before at words

-- A line stands at the start of a buffer, and the answer is how many bytes it has. The places behind it keep what they held.
pub record Line (line before : List ℕ) (n : ℕ) (after : List ℕ) : Type 0 where
  pub many : n ≡ length line
  pub holds : after ≡ line ++ drop (length line) before
  pub counts : IsPrefixLen n after
