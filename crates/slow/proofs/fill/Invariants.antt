-- `slow::fill` meets its contract: one place more in each turn. Assumes nothing.
use Prim.Native.Nat.{ℕ, ◌<◌}
use Rattle.book.specs.Answers.{buffers}
use Rattle.book.specs.Lent.{SameSize}
use Rattle.book.specs.State.{at}
use Rattle.slow.proofs.fill.Given as goal

abbrev pub invariant-loop-i : goal.invariant-loop-i
invariant-loop-i g l = record {
  size : SameSize (buffers l.initial.reals l.initial.imags) (buffers l.reals l.imags);
  places : (k : ℕ) → k < l.i → goal.F-post g l.place k (at (buffers l.reals l.imags) k);
}
