-- What is kept of a stream between two pieces, as a number and 97 bytes; and the contract of gathering. Definitions only. Assumes nothing.
use Rattle.std.specs.Prelude.{ℕ, ◌+◌, ◌-◌, cond, List, [], ◌++◌, ◌≡◌, ltb, eqb, length, take, drop, Option, Some, None}
use Rattle.frames.specs.Frames.{next_of}
use Rattle.frames.specs.Streams.{Rest, begun, passing, stopped, Step}
use Rattle.frames.specs.declared.Next.{Next}
use Rattle.frames.specs.declared.Next.TheVariants.{Whole, Over, Wrong, More}
use Rattle.gathering.specs.declared.Due.{Due}
use Rattle.gathering.specs.declared.Due.TheVariants.{Nothing, Frame, TooLong}
use Rattle.gathering.specs.declared.Gathered.{Gathered}

-- the most that is held: a frame's tag, its length and 94 bytes
abbrev pub most_held : ℕ
most_held = 97

-- bytes that begin no frame were never kept: they count as a wrong tag
abbrev pub if_begun : Next → List ℕ → Rest
if_begun More h = begun h
if_begun (Whole len) h = stopped
if_begun (Over len) h = stopped
if_begun Wrong h = stopped

-- What a number and 97 bytes stand for: below 97, that so many bytes of a frame are held; 97, a wrong tag; 97 + k, that k bytes are still to be read past.
unfoldable pub rest_of : List ℕ → ℕ → Rest
rest_of held kept =
    cond (ltb kept most_held) (if_begun (next_of (take kept held)) (take kept held))
    (cond (eqb kept most_held) stopped (passing (kept - most_held)))

abbrev pub kept_of : Rest → ℕ
kept_of (begun h) = length h
kept_of (passing k) = most_held + k
kept_of stopped = most_held

-- the bytes of a frame that is begun
abbrev pub bytes_of : Rest → List ℕ
bytes_of (begun h) = h
bytes_of (passing k) = []
bytes_of stopped = []

-- they stand at the start, and the places behind them keep what they held
abbrev pub held_of : List ℕ → Rest → List ℕ
held_of held r = bytes_of r ++ drop (length (bytes_of r)) held

-- what is due, of the bytes held and those that came: nothing of an over-long frame
abbrev pub due_of : Due → List ℕ → Option (List ℕ)
due_of Nothing bs = None
due_of (Frame len) bs = Some (take len (drop 3 bs))
due_of TooLong bs = Some []

-- a frame that is due is all there
abbrev pub IsWhole : Due → List ℕ → Type 0
IsWhole Nothing bs = Unit
IsWhole (Frame len) bs = next_of bs ≡ Whole len
IsWhole TooLong bs = Unit

-- The first step that a piece makes behind what is kept.
pub record Gathers (s : Step) (bs : List ℕ) (r : Gathered) : Type 0 where
  pub used : r.used ≡ s.used
  pub kept : r.kept ≡ kept_of s.rest
  pub due : due_of r.due bs ≡ s.due
  pub whole : IsWhole r.due bs
