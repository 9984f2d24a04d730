-- `marks::marked` meets its contract: the mark over what is left, from here, is the mark over all of it. Assumes nothing.
use Rattle.std.proofs.Common.{◌≡◌, drop}
use Rattle.book.specs.Sessions.{marked}
use Rattle.marks.proofs.marked.Given as goal

abbrev pub invariant-loop-byte : goal.invariant-loop-byte
invariant-loop-byte l = marked l.next (drop l.byte-index l.bytes) ≡ marked l.mark l.bytes
