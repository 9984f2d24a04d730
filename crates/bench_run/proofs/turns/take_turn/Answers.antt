-- The buffer has room for all the lines of a piece.
use Rattle.std.proofs.Common.{◌≡◌, ℕ, ◌≤◌, List, length, take, rules}
use Rattle.book.specs.Answers.{Buffers}
use Rattle.program.proofs.Fits.{piece_stands}
use Rattle.program.specs.Program.{Run, Prints}
use Rattle.bench_run.specs.Turns.{Writes}
use Rattle.bench_run.proofs.turns.take_turn.Goals as goal

writes : {x x' : Run} {b b' : Buffers} {read before after : List ℕ} {at : ℕ} → Prints x b read before 0 x' b' at after
    → length read ≤ 2048 → length before ≡ 262400 → Writes x b read (take at after) x' b'
writes p short size = record { answers = p.answers; takes = p.takes; lines = (piece_stands p short size).are; index = p.index }

pub returns-clause-writes : goal.returns-clause-writes
returns-clause-writes g c = writes c.put_piece-printed.ensures (search rules) (search rules)
