-- `program::put_piece` meets its contract: each turn is one step of the stream, and its line is put behind those before it. Assumes nothing.
use Rattle.std.proofs.Common.{ℕ, ◌^◌, ◌<◌, List, length}
use Rattle.book.specs.Answers.{buffers}
use Rattle.feeding.specs.Feeding.{form}
use Rattle.sessions.specs.Deliveries.{meant}
use Rattle.sessions.specs.declared.Session.{Session}
use Rattle.program.specs.Program.{Run}
use Rattle.program.proofs.Pieces.{Going}
use Rattle.program.proofs.put_piece.Given as goal

abbrev run : Session → ℕ → List ℕ → ℕ → Run
run s kept held index = record { index = index; form = form (meant s) kept held }

abbrev pub invariant-loop-rest : goal.invariant-loop-rest
invariant-loop-rest g l =
    (l.initial.index < 2 ^ 64)
    × Going (run l.initial.session l.initial.kept l.initial.held l.initial.index) (buffers l.initial.reals l.initial.imags) l.piece l.initial.out l.behind
    l.rest
    (run l.session l.kept l.held l.index) (buffers l.reals l.imags) l.at l.out

abbrev pub decreases-loop-rest : goal.decreases-loop-rest
decreases-loop-rest g l = length l.rest
