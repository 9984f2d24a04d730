-- `printing::put_state` puts an A line for each place: what is left to print, put, gives all of them. Assumes nothing.
use Prim.Native.Nat.{◌≤◌}
use mathlib.Core.Path.{◌≡◌}
use lib.ListN.{length}
use Rattle.printing.specs.Printed.{state_lines}
use Rattle.puts.proofs.Puts.{Left}
use Rattle.printing.proofs.States.{lines_from}
use Rattle.printing.proofs.put_state.Given as goal

abbrev pub invariant-loop-place : goal.invariant-loop-place
invariant-loop-place l = (l.next ≤ length l.out) × (length l.out ≡ length l.initial.out)
    × Left (state_lines 0 l.reals l.imags) l.initial.out l.at (lines_from l.reals l.imags l.place) l.out l.next
