-- The hypotheses of demand 3 can be met: a fresh session of two qubits, and a list with each of the twelve gates, accepted in order as antt works out.
-- So what demand 3 says of it, it says of something. Assumes nothing.
use Prim.Native.Nat.{ℕ, ◌+◌}
use mathlib.Core.List.{List, [], ◌∷◌}
use Rattle.std.specs.Prelude.{Option, Some, None}
use mathlib.Core.Path.{refl}
use native.Mathlib.Omega.{arith}
use lib.Count.{ones}
use lib.Ieee.{of_int, of_bits, add, sub, mul, div, neg, le, lt, eq}
use Rattle.numbers.specs.Fused.{fused, root}
use Rattle.book.specs.Answers.{first, Buffers}
use Rattle.book.specs.Examples.{real, whole, of_bits64}
use Rattle.book.specs.ExactlyOnce.{Numbered, give, Given}
use Rattle.book.specs.Kernels.{size_tests, seat_tests, swapped}
use Rattle.book.specs.Measuring.{measured, probability, summed}
use Rattle.book.specs.Sessions.{fresh}
use Rattle.book.specs.State.{tabulate, held, controlled, uncontrolled, chosen, choice, placed, on_pairs}
use Rattle.book.specs.declared.Angle.{Angle}
use Rattle.book.specs.declared.Angles.{Angles}
use Rattle.book.specs.declared.Gate.{Gate}
use Rattle.book.specs.declared.Gate.TheVariants.{H, X, Y, Z, P, Rx, Ry, Rz, U, Swap, Measure, BitFlip}
use Rattle.book.specs.declared.Record.{Record}

-- 0.6 and 0.8, rounded
abbrev angle : Angle
angle = record { cosine = of_bits64 0x3FE3333333333333; sine = of_bits64 0x3FE999999999999A }

abbrev angles : Angles
angles =
    record {
      ct = angle.cosine;
      st = angle.sine;
      cl = angle.sine;
      sl = angle.cosine;
      cpl = angle.cosine;
      spl = angle.sine;
      cp = angle.sine;
      sp = angle.cosine;
    }

abbrev gates : List Gate
gates =
    H 0 uncontrolled
    ∷ Measure 0 (record { outcome = 1; reset = 1 })
    ∷ X 1 (controlled 1)
    ∷ Y 0 (controlled 2)
    ∷ Z 1 uncontrolled
    ∷ P 1 (controlled 1) angle
    ∷ Rx 0 (controlled 2) angle
    ∷ Ry 1 uncontrolled angle
    ∷ Rz 0 (controlled 2) angle
    ∷ U 1 (controlled 1) angles
    ∷ Swap 0 1
    ∷ BitFlip 0 (record { prob = whole 1; draw = whole 0 })
    ∷ []

-- made for session 7, numbered from k
abbrev numbered_from : ℕ → List Gate → List Record
numbered_from k [] = []
numbered_from k (g ∷ gs) = record { session = 7; number = k; gate = g } ∷ numbered_from (k + 1) gs

numbered_from_lem : (k : ℕ) (gs : List Gate) → Numbered 7 k (numbered_from k gs)
numbered_from_lem k [] = tt
numbered_from_lem k (g ∷ gs) = (refl, refl, numbered_from_lem (k + 1) gs)

abbrev records : List Record
records = numbered_from 0 gates

-- real 1 at index 0
abbrev before : Buffers
before = real (1 ∷ 0 ∷ 0 ∷ 0 ∷ [])

abbrev or_else : Buffers → Option Buffers → Buffers
or_else b (Some b') = b'
or_else b None = b

pub given : Given 2 7 before records
unfolding fused root first size_tests seat_tests swapped measured probability summed tabulate held chosen choice placed on_pairs
    le lt eq div add sub mul neg ones of_int of_bits
given =
    record {
      session = fresh 2 7;
      fresh = refl;
      fits = refl;
      few = omega arith;
      made = numbered_from_lem 0 gates;
      last = or_else before (give 2 before records);
      accepted = refl;
    }
