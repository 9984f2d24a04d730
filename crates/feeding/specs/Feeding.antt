-- A form that takes bytes as they come, and what a piece does to it: the contracts of this crate. Definitions only. Assumes nothing.
use Rattle.std.specs.Prelude.{ℕ, ◌+◌, ◌*◌, ◌≤◌, min, Bool, true, false, List, [], ◌∷◌, ◌++◌, map, ◌≡◌, length, Option, Some, None}
use Rattle.answers.specs.Told.{replied_number}
use Rattle.book.specs.Answers.{replies, Buffers}
use Rattle.book.specs.Sessions as Book
use Rattle.book.specs.declared.Reply.{Reply}
use Rattle.book.specs.Sessions.{deliver_all}
use Rattle.frames.specs.Streams.{Rest, begun, passing, stopped, step, stream_of}
use Rattle.gathering.specs.Gathering.{most_held, rest_of, kept_of, held_of}
use Rattle.once.specs.AllOnce.{bench, AllOnce}
use Rattle.once.specs.Answered.{Answered, answers_of}
use Rattle.sessions.specs.Deliveries.{meant}
use Rattle.stores.specs.Stores.{store}
use Rattle.feeding.specs.declared.Stepped.{Stepped}
use Rattle.feeding.specs.declared.Feed.{Feed}

-- ---- the form

-- a session, and what is kept of the stream between two pieces
pub record Form : Type 0 where
  pub session : Book.Session
  pub kept : ℕ
  pub held : List ℕ

abbrev pub form : Book.Session → ℕ → List ℕ → Form
form s kept held = record { session = s; kept = kept; held = held }

abbrev pub form_of : Feed → Form
form_of f = form (meant f.session) f.kept f.held

abbrev pub rest_in : Form → Rest
rest_in f = rest_of f.held f.kept

-- whether the end of the input here cuts a frame short, or a wrong tag came
abbrev pub cuts : Rest → Bool
cuts (begun []) = false
cuts (begun (b ∷ bs)) = true
cuts (passing k) = true
cuts stopped = true

-- ---- one step: the piece up to the end of the first frame that it completes

-- what is due is none or one delivery
abbrev pub list_of : Option (List ℕ) → List (List ℕ)
list_of None = []
list_of (Some bytes) = bytes ∷ []

-- what is told of it, with the count after it
abbrev pub told_of : Option Reply → ℕ → List Answered
told_of None count = []
told_of (Some x) count = record { says = replies x; count = count } ∷ []

-- two parts of a frame: its tag and length are there, and it is no longer than what is held
pub record Joins (first last : List ℕ) : Type 0 where
  pub least : 3 ≤ length first + length last
  pub most : length first + length last ≤ most_held

-- One delivery, which used so many bytes of the piece: the next session, what is told, and every place. Nothing is kept behind it.
pub record Makes (s : Book.Session) (b : Buffers) (contents : List ℕ) (n : ℕ) (r : Stepped) (b' : Buffers) : Type 0 where
  pub used : r.used ≡ n
  pub kept : r.kept ≡ 0
  pub run : bench (meant r.session) b' ≡ deliver_all (bench s b) (contents ∷ [])
  pub told : told_of r.told r.session.count ≡ answers_of (bench s b) (contents ∷ [])

-- From a form and buffers to a form and buffers: how many bytes of the piece are used, what is told, what is kept, the session and every place.
pub record Takes (f : Form) (b : Buffers) (piece : List ℕ) (n : ℕ) (t : List Answered) (f' : Form) (b' : Buffers) : Type 0 where
  pub used : n ≡ (step (rest_in f) piece).used
  pub kept : f'.kept ≡ kept_of (step (rest_in f) piece).rest
  pub held : f'.held ≡ held_of f.held (step (rest_in f) piece).rest
  pub run : bench f'.session b' ≡ deliver_all (bench f.session b) (list_of (step (rest_in f) piece).due)
  pub told : t ≡ answers_of (bench f.session b) (list_of (step (rest_in f) piece).due)

-- ---- pieces one after the other

abbrev pub joined : List (List ℕ) → List ℕ
joined [] = []
joined (piece ∷ more) = piece ++ joined more

-- an answer as one number: its own, and the count after it in the low 16 bits
abbrev pub numbered : Answered → ℕ
numbered a = replied_number a.says * 65536 + a.count

-- All of the bytes, in whatever pieces they come: what is left, what the deliveries come to, exactly once, and the answers as far as the list goes.
pub record TakesAll (f : Form) (b : Buffers) (bytes : List ℕ) (t : List Answered) (f' : Form) (b' : Buffers) : Type 0 where
  pub rest : rest_in f' ≡ (stream_of (rest_in f) bytes).rest
  pub once : AllOnce f.session b (stream_of (rest_in f) bytes).deliveries f'.session b'
  pub told : t ≡ answers_of (bench f.session b) (stream_of (rest_in f) bytes).deliveries

-- The answers' numbers are stored from a place of a list on, as far as it goes: up to where.
pub record Filled (before : List ℕ) (at : ℕ) (t : List Answered) (next : ℕ) (after : List ℕ) : Type 0 where
  pub behind : next ≡ min (at + length t) (length before)
  pub stored : after ≡ store before at (map numbered t)

-- both, for a caller who goes on
pub record Went (f : Form) (b : Buffers) (bytes : List ℕ) (at : ℕ) (before : List ℕ) (f' : Form) (b' : Buffers) (next : ℕ) (after : List ℕ) : Type 0 where
  pub answers : List Answered
  pub takes : TakesAll f b bytes answers f' b'
  pub filled : Filled before at answers next after

abbrev pub Fills : Form → Buffers → List ℕ → List ℕ → List ℕ → Form → Buffers → Type 0
Fills f b bytes before after f' b' = (t : List Answered) × TakesAll f b bytes t f' b' × (after ≡ store before 0 (map numbered t))
