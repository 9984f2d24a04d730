-- `words::add` stores byte after byte: what is left to store, stored, gives the whole. Assumes nothing.
use Prim.Native.Nat.{◌+◌}
use mathlib.Core.Path.{◌≡◌}
use lib.ListN.{length, drop}
use Rattle.stores.specs.Stores.{store}
use Rattle.words.proofs.add.Given as goal

abbrev pub invariant-loop-i : goal.invariant-loop-i
invariant-loop-i l =
    (length l.out ≡ length l.initial.out) × (store l.out (l.at + l.i) (drop l.i l.words) ≡ store l.initial.out l.at l.words)
