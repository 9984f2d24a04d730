-- A session in eight words, as a caller of the archive keeps it: n, its number, the count, the value, the mark, and three for requests to come.
-- Definitions only. Assumes nothing.
use Rattle.std.specs.Prelude.{ℕ, zero, suc, ◌%◌, ◌≤◌, ◌<◌, cond, List, [], ◌∷◌, ◌≡◌, eqb, length, get_or, set, Option, Some, None}
use Rattle.book.specs.Sessions.{Session}

-- a value's word: 0 for none, v + 1 for a value v
abbrev pub value_word : Option ℕ → ℕ
value_word None = 0
value_word (Some v) = suc v

-- any word has a value, or none: the low byte counts
abbrev pub value_in : ℕ → Option ℕ
value_in zero = None
value_in (suc k) = Some (k % 256)

-- any eight words are a session: of the count the low 16 bits count
abbrev pub session_in : List ℕ → Session
session_in w = record { n = get_or w 0 0; number = get_or w 1 0; count = get_or w 2 0 % 65536; value = value_in (get_or w 3 0); mark = get_or w 4 0 }

abbrev pub fresh_words : ℕ → ℕ → List ℕ
fresh_words n own = n ∷ own ∷ 0 ∷ 0 ∷ 0 ∷ 0 ∷ 0 ∷ 0 ∷ []

-- where the count moved, it, the value's word and the mark are written; else no word is
abbrev pub written : List ℕ → ℕ → ℕ → ℕ → List ℕ
written w count word mark = cond (eqb (session_in w).count count) w (set (set (set w 2 count) 3 word) 4 mark)

abbrev pub kept_words : List ℕ → ℕ → Option ℕ → ℕ → List ℕ
kept_words w count v mark = written w count (value_word v) mark

-- a value that is a byte, as the code's is, can be read from its word
pub record Worded (v : Option ℕ) (word : ℕ) : Type 0 where
  pub is : word ≡ value_word v
  pub back : value_in word ≡ v

-- What is kept after a delivery, in words that are there, from a count and a value that can be read from theirs, and a mark.
pub record Keeps (w : List ℕ) (count : ℕ) (v : Option ℕ) (mark : ℕ) (w' : List ℕ) : Type 0 where
  pub words : w' ≡ kept_words w count v mark
  pub there : 5 ≤ length w
  pub small : count < 65536
  pub back : value_in (value_word v) ≡ v
