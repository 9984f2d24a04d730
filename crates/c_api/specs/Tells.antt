-- The contracts of the calls that tell an answer as one number. Definitions only. Assumes nothing.
use Rattle.std.specs.Prelude.{ℕ, cond, List, [], ◌∷◌, ◌≡◌, eqb, Float, Option, Some, None}
use Rattle.answers.specs.Told.{said_number, replied_number}
use Rattle.book.specs.Answers.{Buffers, Outcome, Answer, says, Does}
use Rattle.book.specs.Sessions as Book
use Rattle.book.specs.State.{amplitude}
use Rattle.book.specs.declared.Angles.{Angles}
use Rattle.book.specs.declared.Matrix.{Matrix}
use Rattle.feeding.specs.Feeding.{Form, form, Takes}
use Rattle.gathering.specs.Gathering.{most_held}
use Rattle.keeping.specs.Kept.{session_in, fresh_words, kept_words}
use Rattle.once.specs.Answered.{Answered}

-- a session that starts, or refusal 1
abbrev pub start_of : Option Book.Session → ℕ
start_of (Some s) = 0
start_of None = 1

-- The whole contract of a start: the number returned, and every word: all eight are written, or none.
pub record TellsStart (n own : ℕ) (w : List ℕ) (code : ℕ) (w' : List ℕ) : Type 0 where
  pub answers : code ≡ start_of (Book.start n own)
  pub words : w' ≡ cond (eqb code 0) (fresh_words n own) w

-- The whole contract of a call on two buffers: the number is that of an answer that the outcome allows. So it is the outcome's own (TellsPlainly).
pub record Tells (o : Outcome) (code : ℕ) (after : Buffers) : Type 0 where
  pub answer : Answer
  pub does : Does o answer after
  pub tells : code ≡ said_number (says answer)

abbrev pub TellsPlainly : Type 0
TellsPlainly = (o : Outcome) (code : ℕ) (after : Buffers) → Tells o code after → (code ≡ said_number o.says) × (after ≡ o.left)

-- words in which a session stays as it is, or becomes this one
abbrev pub becoming : List ℕ → Book.Session → List ℕ
becoming w s = kept_words w s.count s.value s.mark

-- The whole contract of a delivery to the session that eight words are: the number returned, the session after it and the words it is in, and every
-- place of both buffers.
pub record TellsDelivery (w : List ℕ) (b : Buffers) (bytes : List ℕ) (code : ℕ) (w' : List ℕ) (after : Buffers) : Type 0 where
  pub answers : code ≡ replied_number (Book.deliver (session_in w) b bytes).says
  pub session : session_in w' ≡ (Book.deliver (session_in w) b bytes).next
  pub words : w' ≡ becoming w (session_in w')
  pub leaves : after ≡ (Book.deliver (session_in w) b bytes).left

-- what a piece is answered: what its delivery says; 1024 where no frame is complete, 1025 behind a wrong tag
abbrev pub fed_number : List Answered → ℕ → ℕ
fed_number [] kept = cond (eqb kept most_held) 1025 1024
fed_number (a ∷ more) kept = replied_number a.says

-- what the caller keeps between two pieces: the session's words, and what is left of the stream
pub record Words : Type 0 where
  pub session : List ℕ
  pub kept : ℕ
  pub held : List ℕ

abbrev pub words : List ℕ → ℕ → List ℕ → Words
words session kept held = record { session = session; kept = kept; held = held }

abbrev pub form_in : Words → Form
form_in x = form (session_in x.session) x.kept x.held

-- The whole contract of a piece: the number returned, how many bytes were used, all that the caller keeps, and every place of both buffers.
pub record TellsFeed (x : Words) (b : Buffers) (piece : List ℕ) (code used : ℕ) (x' : Words) (b' : Buffers) : Type 0 where
  pub told : List Answered
  pub takes : Takes (form_in x) b piece used told (form_in x') b'
  pub words : x'.session ≡ becoming x.session (session_in x'.session)
  pub tells : code ≡ fed_number told x'.kept

-- a gate's four entries, row by row
abbrev pub four_entries : Float → Float → Float → Float → Float → Float → Float → Float → Matrix
four_entries re00 im00 re01 im01 re10 im10 re11 im11 =
    record { entries = amplitude re00 im00 ∷ amplitude re01 im01 ∷ amplitude re10 im10 ∷ amplitude re11 im11 ∷ [] }

-- the eight numbers of U, in 01's order
abbrev pub eight : Float → Float → Float → Float → Float → Float → Float → Float → Angles
eight ct st cl sl cpl spl cp sp = record { ct = ct; st = st; cl = cl; sl = sl; cpl = cpl; spl = spl; cp = cp; sp = sp }
