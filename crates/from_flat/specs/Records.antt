-- The record that six whole numbers and eight floats are. Definitions only. Assumes nothing.
use Rattle.std.specs.Prelude.{ℕ, cond, ◌||◌, List, ◌≡◌, ltb, Float, get_or, Option, Some, None}
use Rattle.std.specs.Float.{nan}
use Rattle.book.specs.Records.{Row, plain, angled, eight, second, forced, noisy, unlisted, row_of, record_with}
use Rattle.book.specs.State.{controlled}
use Rattle.book.specs.declared.Angle.{Angle}
use Rattle.book.specs.declared.Angles.{Angles}
use Rattle.book.specs.declared.Gate.{Gate}
use Rattle.book.specs.declared.Gate.TheVariants.{Swap, Measure}
use Rattle.book.specs.declared.Noise.{Noise}
use Rattle.book.specs.declared.Record.{Record}
use Rattle.records.specs.RoundTrips.{Held}
use Rattle.flat.specs.Numbers.{flat_fields, flat_numbers, too_few}

-- a number that has to be a byte
abbrev pub byte : {A : Type 0} → ℕ → Option A → Option A
byte k follows = cond (ltb 255 k) None follows

abbrev pub angle : Angles → Angle
angle g = record { cosine = g.ct; sine = g.st }

abbrev pub noise : Angles → Noise
noise g = record { prob = g.ct; draw = g.st }

-- SWAP's second qubit, a measurement's outcome and its reset are bytes
abbrev pub swap_of : ℕ → ℕ → Option Gate
swap_of t other = byte other (Some (Swap t other))

abbrev pub measure_of : ℕ → ℕ → ℕ → Option Gate
measure_of t outcome reset = byte outcome (byte reset (Some (Measure t (record { outcome = outcome; reset = reset }))))

-- the gate of a row of the book's table; what a gate does not have is not looked at
abbrev pub gate_of : Row → ℕ → ℕ → ℕ → Angles → Option Gate
gate_of (plain h) t mask reset g = Some (h t (controlled mask))
gate_of (angled h) t mask reset g = Some (h t (controlled mask) (angle g))
gate_of (eight h) t mask reset g = Some (h t (controlled mask) g)
gate_of (second h) t other reset g = byte other (Some (h t other))
gate_of (forced h) t outcome reset g = byte outcome (byte reset (Some (h t (record { outcome = outcome; reset = reset }))))
gate_of (noisy h) t other reset g = Some (h t (noise g))
gate_of unlisted t other reset g = None

abbrev pub numbers_at : List Float → Angles
numbers_at xs =
    let x : ℕ → Float = λ i. get_or xs i nan in
    record { ct = x 0; st = x 1; cl = x 2; sl = x 3; cpl = x 4; spl = x 5; cp = x 6; sp = x 7 }

-- the record that the first places are; none where there are too few, or a number is beyond what a record holds there
unfoldable pub record_of : List ℕ → List Float → Option Record
record_of fs xs =
    cond (too_few fs xs || ltb 65535 (get_or fs 1 0) || ltb 255 (get_or fs 3 0))
    None
    (record_with (get_or fs 0 0) (get_or fs 1 0) (gate_of (row_of (get_or fs 2 0)) (get_or fs 3 0) (get_or fs 4 0) (get_or fs 5 0) (numbers_at xs)))

-- a record comes back from its numbers
abbrev pub FlatBack : Type 0
FlatBack = (r : Record) → Held r → record_of (flat_fields r) (flat_numbers r) ≡ Some r
