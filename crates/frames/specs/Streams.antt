-- What a stream of bytes behind the header gives: its deliveries in order, and what is left at its end. Definitions only. Assumes nothing.
use Rattle.std.specs.Prelude.{ℕ, zero, suc, ◌+◌, ◌-◌, cond, List, [], ◌∷◌, ◌++◌, ltb, length, take, drop, Option, Some, None}
use Rattle.frames.specs.Frames.{next_of}
use Rattle.frames.specs.declared.Next.{Next}
use Rattle.frames.specs.declared.Next.TheVariants.{Whole, Over, Wrong, More}

-- What is left behind the last whole frame: a frame that is begun, with its bytes so far, none right behind a frame; an over-long one, of which so many bytes
-- are still to be read past; or a wrong tag, behind which no more is read.
pub data Rest : Type 0 where
  begun : List ℕ → Rest
  passing : ℕ → Rest
  stopped : Rest

-- What bytes give first: the contents of the frame that they complete, if they complete one; how many of them that takes; and what is left.
pub record Step : Type 0 where
  pub used : ℕ
  pub due : Option (List ℕ)
  pub rest : Rest

-- no frame is complete, and all bytes are used
abbrev pub waiting : List ℕ → Rest → Step
waiting bs r = record { used = length bs; due = None; rest = r }

-- a frame is complete behind so many bytes
abbrev pub complete : ℕ → List ℕ → Step
complete k contents = record { used = k; due = Some contents; rest = begun [] }

-- so many bytes of an over-long frame are to be read past. Nothing of it is delivered, and nothing is no record: refused with 8
abbrev pub past : ℕ → List ℕ → Step
past k bs = cond (ltb (length bs) k) (waiting bs (passing (k - length bs))) (complete k [])

-- behind the bytes `h` of a frame that is begun
abbrev pub frame_of : Next → List ℕ → List ℕ → Step
frame_of (Whole len) h bs = complete (3 + len - length h) (take len (drop 3 (h ++ bs)))
frame_of (Over len) h bs = past (3 + len - length h) bs
frame_of Wrong h bs = waiting bs stopped
frame_of More h bs = waiting bs (begun (h ++ bs))

unfoldable pub step : Rest → List ℕ → Step
step (begun h) bs = frame_of (next_of (h ++ bs)) h bs
step (passing k) bs = past k bs
step stopped bs = waiting bs stopped

-- ---- one frame after the other

-- the deliveries in order, and what is left
pub record Stream : Type 0 where
  pub deliveries : List (List ℕ)
  pub rest : Rest

abbrev pub ends : Rest → Stream
ends r = record { deliveries = []; rest = r }

abbrev pub goes_on : Option (List ℕ) → Rest → Stream → Stream
goes_on None r more = ends r
goes_on (Some contents) r more = record { deliveries = contents ∷ more.deliveries; rest = more.rest }

-- in at most so many steps
abbrev pub stream_in : ℕ → Rest → List ℕ → Stream
stream_in zero r bs = ends r
stream_in (suc k) r bs = let s = step r bs in goes_on s.due s.rest (stream_in k s.rest (drop s.used bs))

-- Bytes behind what is left of earlier ones; begun [] where they are the first. They complete fewer frames than they are, and one.
unfoldable pub stream_of : Rest → List ℕ → Stream
stream_of r bs = stream_in (suc (length bs)) r bs
