-- Records written and read back, and bytes read and written back: the statements, which proofs/ shows. Definitions only. Assumes nothing.
-- The logic has one NaN. So a record with a NaN reads back as written too; bytes with another NaN than 7FF8000000000000 do not write back.
use Rattle.std.specs.Prelude.{ℕ, ◌≤◌, ◌<◌, ◌^◌, true, List, [], ◌≡◌, Float, length, Some, Result}
use Rattle.book.specs.Answers.{gives_of, or_denied, Buffers, accepts}
use Rattle.book.specs.Calls.{act}
use Rattle.book.specs.Gates.{angle_of, angles_of, noise_of}
use Rattle.book.specs.Records.{parts_of, write_record, most_bytes, wrote_of, left_by, read_record}
use Rattle.book.specs.declared.Angles.{Angles}
use Rattle.book.specs.declared.Controls.{Controls}
use Rattle.book.specs.declared.Gate.TheVariants.{U}
use Rattle.book.specs.declared.Record.{Record}
use Rattle.book.specs.declared.Refusal.{Refusal}
use Rattle.book.specs.declared.Shape.{Shape}
use Rattle.book.specs.declared.Shape.TheVariants.{Plain, Angled, Eight, Second, Forced, Noisy}
use Rattle.wire.specs.Bytes.{Bytes, Each, IsF64, NotNan}

-- ---- the records that a Record holds: each number fits its type

-- what stands behind field 04: the mask, the second qubit, or outcome and reset
abbrev pub OwnFits : Shape → Type 0
OwnFits (Plain c) = c.ones < 2 ^ 32
OwnFits (Angled c a) = c.ones < 2 ^ 32
OwnFits (Eight c g) = c.ones < 2 ^ 32
OwnFits (Second u) = u < 256
OwnFits (Forced f) = (f.outcome < 256) × (f.reset < 256)
OwnFits (Noisy n) = Unit

-- the floats that a gate is fed
abbrev pub floats_of : Shape → List Float
floats_of (Plain c) = []
floats_of (Angled c a) = angle_of a
floats_of (Eight c g) = angles_of g
floats_of (Second u) = []
floats_of (Forced f) = []
floats_of (Noisy n) = noise_of n

pub record Held (r : Record) : Type 0 where
  pub session : r.session < 2 ^ 32
  pub number : r.number < 2 ^ 16
  pub target : (parts_of r.gate).target < 256
  pub own : OwnFits (parts_of r.gate).shape
  pub floats : Each IsF64 (floats_of (parts_of r.gate).shape)

abbrev pub NoNan : Record → Type 0
NoNan r = Each NotNan (floats_of (parts_of r.gate).shape)

-- ---- round trips

-- a record reads back as it was written, NaN or not
abbrev pub ReadsBack : Type 0
ReadsBack = (r : Record) → Held r → read_record (write_record r) ≡ Some r

-- bytes that are read write back as they were, where no NaN is among the record's numbers
abbrev pub WritesBack : Type 0
WritesBack = (bs : List ℕ) (r : Record) → Bytes bs → read_record bs ≡ Some r → NoNan r → write_record r ≡ bs

-- each meaning has one spelling: bytes that are read as the same record are the same, where no NaN is among its numbers
abbrev pub OneSpelling : Type 0
OneSpelling = (bs cs : List ℕ) (r : Record) → Bytes bs → Bytes cs → read_record bs ≡ Some r → read_record cs ≡ Some r → NoNan r → bs ≡ cs

-- bytes whose record is taken write back as they were: 6 refuses a NaN
abbrev pub TakenWritesBack : Type 0
TakenWritesBack =
    (n : ℕ) (b : Buffers) (bs : List ℕ) (r : Record)
    → Bytes bs → read_record bs ≡ Some r → accepts (act n r.gate b).says ≡ true → write_record r ≡ bs

-- ---- sizes

-- a record has at most so many bytes as 01 says
abbrev pub AtMost : Type 0
AtMost = (r : Record) → length (write_record r) ≤ most_bytes

-- and a U has as many
abbrev pub UHasMost : Type 0
UHasMost = (s k t : ℕ) (c : Controls) (g : Angles) → length (write_record (record { session = s; number = k; gate = U t c g })) ≡ most_bytes

-- ---- the contracts leave nothing open

-- two answers that the reader's contract allows are the same
abbrev pub ReadersAgree : Type 0
ReadersAgree =
    (bs : List ℕ) (a b : Result Record Refusal) → gives_of a ≡ or_denied 8 (read_record bs) → gives_of b ≡ or_denied 8 (read_record bs) → a ≡ b

-- two answers that the writer's contract allows are the same, and so is what they leave
abbrev pub WritersAgree : Type 0
WritersAgree =
    (r : Record) (out : List ℕ) (a b : Result ℕ Refusal) (left other : List ℕ)
    → gives_of a ≡ wrote_of r out → left ≡ left_by r out → gives_of b ≡ wrote_of r out → other ≡ left_by r out → (a ≡ b) × (left ≡ other)
