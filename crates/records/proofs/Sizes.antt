-- How many bytes a record has, by its gate: at most U's 94. Assumes nothing.
use Prim.Native.Nat.{ℕ, ◌≤◌}
use native.Mathlib.Omega.{arith}
use mathlib.Core.Path.{refl}
use lib.ListN.{length}
use Rattle.book.specs.Records.{write_record, most_bytes}
use Rattle.book.specs.declared.Gate.{Gate}
use Rattle.book.specs.declared.Gate.TheVariants.{H, X, Y, Z, P, Rx, Ry, Rz, U, Swap, Measure, BitFlip}
use Rattle.records.specs.RoundTrips.{AtMost, UHasMost}

by_gate : (session number : ℕ) (g : Gate) → length (write_record (record { session = session; number = number; gate = g })) ≤ most_bytes
by_gate session number (H t c) = omega arith
by_gate session number (X t c) = omega arith
by_gate session number (Y t c) = omega arith
by_gate session number (Z t c) = omega arith
by_gate session number (P t c a) = omega arith
by_gate session number (Rx t c a) = omega arith
by_gate session number (Ry t c a) = omega arith
by_gate session number (Rz t c a) = omega arith
by_gate session number (U t c g) = omega arith
by_gate session number (Swap t u) = omega arith
by_gate session number (Measure t f) = omega arith
by_gate session number (BitFlip t n) = omega arith

pub at_most : AtMost
at_most r = by_gate r.session r.number r.gate

pub u_has_most : UHasMost
u_has_most session number target c g = refl
