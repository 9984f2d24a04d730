-- A record comes back from its numbers: by its gate, the numbers that have to fit do. Assumes nothing.
use Prim.Native.Nat.{ℕ, ◌<◌, ◌^◌}
use native.Mathlib.Omega.{arith}
use Rattle.std.specs.Prelude.{Some}
use mathlib.Core.Path.{◌≡◌}
use borrow.Author.Tests.{le-ltb}
use Rattle.book.specs.Records.{parts_of}
use Rattle.book.specs.declared.Gate.{Gate}
use Rattle.book.specs.declared.Gate.TheVariants.{H, X, Y, Z, P, Rx, Ry, Rz, U, Swap, Measure, BitFlip}
use Rattle.book.specs.declared.Record.{Record}
use Rattle.flat.specs.Numbers.{flat_fields, flat_numbers, too_few}
use Rattle.records.specs.RoundTrips.{OwnFits}
use Rattle.from_flat.specs.Records.{record_of, FlatBack}

by_gate : (s k : ℕ) (g : Gate) → k < 2 ^ 16 → (parts_of g).target < 256 → OwnFits (parts_of g).shape
    → (let r : Record = record { session = s; number = k; gate = g } in record_of (flat_fields r) (flat_numbers r) ≡ Some r)
unfolding record_of too_few
by_gate s k (H t c) n h o = rw (le-ltb 65535 k (omega arith), le-ltb 255 t (omega arith))
by_gate s k (X t c) n h o = rw (le-ltb 65535 k (omega arith), le-ltb 255 t (omega arith))
by_gate s k (Y t c) n h o = rw (le-ltb 65535 k (omega arith), le-ltb 255 t (omega arith))
by_gate s k (Z t c) n h o = rw (le-ltb 65535 k (omega arith), le-ltb 255 t (omega arith))
by_gate s k (P t c a) n h o = rw (le-ltb 65535 k (omega arith), le-ltb 255 t (omega arith))
by_gate s k (Rx t c a) n h o = rw (le-ltb 65535 k (omega arith), le-ltb 255 t (omega arith))
by_gate s k (Ry t c a) n h o = rw (le-ltb 65535 k (omega arith), le-ltb 255 t (omega arith))
by_gate s k (Rz t c a) n h o = rw (le-ltb 65535 k (omega arith), le-ltb 255 t (omega arith))
by_gate s k (U t c g) n h o = rw (le-ltb 65535 k (omega arith), le-ltb 255 t (omega arith))
by_gate s k (Swap t u) n h o = rw (le-ltb 65535 k (omega arith), le-ltb 255 t (omega arith), le-ltb 255 u (omega arith))
by_gate s k (Measure t f) n h o =
    rw (le-ltb 65535 k (omega arith), le-ltb 255 t (omega arith), le-ltb 255 f.outcome (omega arith), le-ltb 255 f.reset (omega arith))
by_gate s k (BitFlip t a) n h o = rw (le-ltb 65535 k (omega arith), le-ltb 255 t (omega arith))

pub flat_back : FlatBack
flat_back r h = by_gate r.session r.number r.gate h.number h.target h.own
