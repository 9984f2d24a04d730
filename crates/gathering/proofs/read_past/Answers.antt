-- `gathering::read_past` meets its contract: where the piece is shorter all of it is passed, else the frame is complete. Assumes nothing.
use Prim.Native.Nat.{◌-◌}
use mathlib.Core.List.{[]}
use mathlib.Core.Path.{refl}
use lib.ListN.{length}
use borrow.Author.Tests.{lt-ltb, le-ltb}
use Rattle.frames.specs.Streams.{passing}
use Rattle.gathering.proofs.read_past.Goals as goal

pub returns-then-piece-k : goal.returns-then-piece-k
returns-then-piece-k c = λ bs. let a = c.args in
    let n = length a.piece.now in
    rw (lt-ltb n a.k c.if-piece-k.true) (c.waiting.ensures (passing (a.k - n)) bs refl)

pub returns : goal.returns
returns c = λ bs. let a = c.args in
    rw (le-ltb (length a.piece.now) a.k c.if-piece-k.false) (c.complete.ensures bs [] refl tt)
