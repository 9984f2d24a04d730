-- Gate records: the bytes that a record is written as, and the record that bytes are read as. Definitions only. Assumes nothing.
-- Big-endian, an f64 as its bits; a NaN's are 7FF8000000000000.
use Rattle.std.specs.Prelude.{ℕ, zero, suc, ◌+◌, ◌*◌, ◌/◌, ◌%◌, ◌^◌, Bool, cond, ◌&&◌, List, [], ◌∷◌, ◌++◌, leb, ltb, eqb, Float, length, take, drop, get_or, Option, Some, None}
use Rattle.std.specs.Float.{binary64}
use Rattle.std.specs.Float.Ieee.{of_bits, to_bits}
use Rattle.book.specs.Answers.{Gives, gives, denied}
use Rattle.book.specs.Gates.{angle_of, angles_of, noise_of}
use Rattle.book.specs.State.{controlled}
use Rattle.book.specs.declared.Angle.{Angle}
use Rattle.book.specs.declared.Angles.{Angles}
use Rattle.book.specs.declared.Controls.{Controls}
use Rattle.book.specs.declared.Forced.{Forced as ForcedBy}
use Rattle.book.specs.declared.Gate.{Gate}
use Rattle.book.specs.declared.Gate.TheVariants.{H, X, Y, Z, P, Rx, Ry, Rz, U, Swap, Measure, BitFlip}
use Rattle.book.specs.declared.Noise.{Noise}
use Rattle.book.specs.declared.Parts.{Parts}
use Rattle.book.specs.declared.Record.{Record}
use Rattle.book.specs.declared.Shape.{Shape}
use Rattle.book.specs.declared.Shape.TheVariants.{Plain, Angled, Eight, Second, Forced, Noisy}

-- ---- numbers as bytes

-- a number in k bytes, the highest first
abbrev pub bytes : ℕ → ℕ → List ℕ
bytes zero n = []
bytes (suc k) n = n / 256 ^ k ∷ bytes k (n % 256 ^ k)

-- the number that some bytes are
abbrev pub number : List ℕ → ℕ
number [] = 0
number (b ∷ bs) = b * 256 ^ length bs + number bs

abbrev pub floats : List Float → List ℕ
floats [] = []
floats (x ∷ xs) = bytes 8 (to_bits binary64 x) ++ floats xs

-- ---- the table of the twelve gates

abbrev pub parts : ℕ → ℕ → Shape → Parts
parts code target shape = record { code = code; target = target; shape = shape }

-- code, target, and what stands behind field 04
abbrev pub parts_of : Gate → Parts
parts_of (H t c) = parts 1 t (Plain c)
parts_of (X t c) = parts 2 t (Plain c)
parts_of (Y t c) = parts 3 t (Plain c)
parts_of (Z t c) = parts 4 t (Plain c)
parts_of (P t c a) = parts 5 t (Angled c a)
parts_of (Rx t c a) = parts 6 t (Angled c a)
parts_of (Ry t c a) = parts 7 t (Angled c a)
parts_of (Rz t c a) = parts 8 t (Angled c a)
parts_of (U t c g) = parts 9 t (Eight c g)
parts_of (Swap t u) = parts 10 t (Second u)
parts_of (Measure t f) = parts 11 t (Forced f)
parts_of (BitFlip t a) = parts 12 t (Noisy a)

-- and back: how a gate is made of a target and what stands behind it
pub data Row : Type 0 where
  plain : (ℕ → Controls → Gate) → Row
  angled : (ℕ → Controls → Angle → Gate) → Row
  eight : (ℕ → Controls → Angles → Gate) → Row
  second : (ℕ → ℕ → Gate) → Row
  forced : (ℕ → ForcedBy → Gate) → Row
  noisy : (ℕ → Noise → Gate) → Row
  unlisted : Row

-- the rows of codes 0, 1, 2, .. 12
abbrev pub rows : List Row
rows =
    unlisted ∷ plain H ∷ plain X ∷ plain Y ∷ plain Z ∷ angled P ∷ angled Rx ∷ angled Ry ∷ angled Rz ∷ eight U
    ∷ second Swap ∷ forced Measure ∷ noisy BitFlip ∷ []

abbrev pub row_of : ℕ → Row
row_of code = get_or rows code unlisted

-- ---- writing

-- a field: one-byte tag, two-byte length, contents
abbrev pub field : ℕ → List ℕ → List ℕ
field tag contents = tag ∷ bytes 2 (length contents) ++ contents

-- 05 mask, 06 second qubit, 07 cosine and sine, 08 the eight numbers of U, 09 outcome and reset, 0A prob and draw
abbrev pub mask_field : Controls → List ℕ
mask_field c = field 0x05 (bytes 4 c.ones)

abbrev pub fields_of : Shape → List ℕ
fields_of (Plain c) = mask_field c
fields_of (Angled c a) = mask_field c ++ field 0x07 (floats (angle_of a))
fields_of (Eight c g) = mask_field c ++ field 0x08 (floats (angles_of g))
fields_of (Second u) = field 0x06 (bytes 1 u)
fields_of (Forced f) = field 0x09 (bytes 1 f.outcome ++ bytes 1 f.reset)
fields_of (Noisy a) = field 0x0A (floats (noise_of a))

-- 01 session, 02 number, 03 code, 04 target, then by code
abbrev pub write_record : Record → List ℕ
write_record r =
    let p = parts_of r.gate in
    field 0x01 (bytes 4 r.session)
    ++ field 0x02 (bytes 2 r.number)
    ++ field 0x03 (bytes 1 p.code)
    ++ field 0x04 (bytes 1 p.target)
    ++ fields_of p.shape

-- a record has at most 94 bytes
abbrev pub most_bytes : ℕ
most_bytes = 94

-- The writer answers how many bytes the record has and touches only those; refusal 12 if the buffer is shorter.
abbrev pub wrote_of : Record → List ℕ → Gives ℕ
wrote_of r out = cond (ltb (length out) (length (write_record r))) (denied 12) (gives (length (write_record r)))

abbrev pub left_by : Record → List ℕ → List ℕ
left_by r out = cond (ltb (length out) (length (write_record r))) out (write_record r ++ drop (length (write_record r)) out)

-- ---- reading

-- a field of this tag and this length stands at the start
abbrev pub starts : ℕ → ℕ → List ℕ → Bool
starts tag len bs = eqb (get_or bs 0 0) tag && (eqb (number (take 2 (drop 1 bs))) len && leb (3 + len) (length bs))

-- The field that is listed here: the reading goes on with its contents and what follows. A field that is not there as listed ends it.
unfoldable pub listed : {A : Type 0} → ℕ → ℕ → List ℕ → (List ℕ → List ℕ → Option A) → Option A
listed tag len bs go = cond (starts tag len bs) (go (take len (drop 3 bs)) (drop (3 + len) bs)) None

-- nothing after
abbrev pub last : {A : Type 0} → List ℕ → A → Option A
last [] a = Some a
last (b ∷ bs) a = None

-- the f64 whose bits stand at place i of the contents, counted in floats
abbrev pub float : List ℕ → ℕ → Float
float contents i = of_bits binary64 (number (take 8 (drop (8 * i) contents)))

abbrev pub read_angle : List ℕ → Angle
read_angle c = record { cosine = float c 0; sine = float c 1 }

abbrev pub read_angles : List ℕ → Angles
read_angles c = record { ct = float c 0; st = float c 1; cl = float c 2; sl = float c 3; cpl = float c 4; spl = float c 5; cp = float c 6; sp = float c 7 }

abbrev pub read_noise : List ℕ → Noise
read_noise c = record { prob = float c 0; draw = float c 1 }

abbrev pub read_forced : List ℕ → ForcedBy
read_forced c = record { outcome = get_or c 0 0; reset = get_or c 1 0 }

-- 05 mask, and what follows it
abbrev pub mask_then : List ℕ → (Controls → List ℕ → Option Gate) → Option Gate
mask_then bs go = listed 0x05 4 bs λ mask rest. go (controlled (number mask)) rest

-- the gate of a row and a target, from the fields behind 04
abbrev pub read_row : Row → ℕ → List ℕ → Option Gate
read_row (plain g) t bs = mask_then bs λ c rest. last rest (g t c)
read_row (angled g) t bs = mask_then bs λ c rest. listed 0x07 16 rest λ a rest'. last rest' (g t c (read_angle a))
read_row (eight g) t bs = mask_then bs λ c rest. listed 0x08 64 rest λ a rest'. last rest' (g t c (read_angles a))
read_row (second g) t bs = listed 0x06 1 bs λ u rest. last rest (g t (number u))
read_row (forced g) t bs = listed 0x09 2 bs λ f rest. last rest (g t (read_forced f))
read_row (noisy g) t bs = listed 0x0A 16 bs λ a rest. last rest (g t (read_noise a))
read_row unlisted t bs = None

abbrev pub record_with : ℕ → ℕ → Option Gate → Option Record
record_with s k (Some g) = Some (record { session = s; number = k; gate = g })
record_with s k None = None

abbrev pub read_record : List ℕ → Option Record
read_record bs =
    listed 0x01 4 bs λ session bs₁.
    listed 0x02 2 bs₁ λ k bs₂.
    listed 0x03 1 bs₂ λ code bs₃.
    listed 0x04 1 bs₃ λ target bs₄.
    record_with (number session) (number k) (read_row (row_of (number code)) (number target) bs₄)
