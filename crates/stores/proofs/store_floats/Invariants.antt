-- `stores::store_floats` stores floats as their bits, one after the other. The loop's invariant: those passed are stored. Assumes nothing.
use mathlib.Core.Path.{◌≡◌}
use lib.ListN.{length, take}
use Rattle.book.specs.Records.{floats}
use Rattle.stores.specs.Stores.{Stored}
use Rattle.stores.proofs.store_floats.Given as goal

abbrev pub invariant-loop-x : goal.invariant-loop-x
invariant-loop-x l = (length l.out ≡ length l.initial.out) × Stored (floats (take l.x-index l.numbers)) l.initial.out l.at l.next l.out
