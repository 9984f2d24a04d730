-- `heads::number` reads the number that the bytes are. The loop's invariant: n is the number of the bytes passed, and is
-- below 256 to the power of their count, so that up to 8 bytes have room. Assumes nothing.
use Prim.Native.Nat.{◌<◌, ◌^◌}
use mathlib.Core.Path.{◌≡◌}
use lib.ListN.{take}
use Rattle.book.specs.Records.{number}
use Rattle.heads.proofs.number.Given as goal

abbrev pub invariant-loop-byte : goal.invariant-loop-byte
invariant-loop-byte l = (l.n ≡ number (take l.byte-index l.bytes)) × (l.n < 256 ^ l.byte-index)
