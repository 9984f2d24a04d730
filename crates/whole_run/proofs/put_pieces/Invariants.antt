-- `whole_run::put_pieces` meets its contract: each turn prints the next piece behind those before it. Assumes nothing.
use Prim.Native.Nat.{◌<◌}
use Rattle.std.specs.Slice.Iter.{chunks_rest, chunks_size}
use Rattle.book.specs.Answers.{buffers}
use Rattle.program.specs.Program.{run_of}
use Rattle.whole_run.proofs.Whole.{Part}
use Rattle.whole_run.proofs.put_pieces.Given as goal

abbrev pub invariant-loop-piece : goal.invariant-loop-piece
invariant-loop-piece g l = (0 < chunks_size l.piece-iterator)
    × Part (run_of l.initial.next) (buffers l.initial.reals l.initial.imags) l.bytes l.initial.out (chunks_rest l.piece-iterator)
    (run_of l.next) (buffers l.reals l.imags) l.at l.out
