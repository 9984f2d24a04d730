-- `feeding::take_whole` meets its contract: each turn is one step of the stream, whose answer is stored behind those before it. Assumes nothing.
use mathlib.Core.List.{List}
use lib.ListN.{length}
use Rattle.book.specs.Answers.{buffers}
use Rattle.once.specs.Answered.{Answered}
use Rattle.sessions.specs.Deliveries.{meant}
use Rattle.feeding.specs.Feeding.{form, Filled}
use Rattle.feeding.proofs.Loop.{Left}
use Rattle.feeding.proofs.take_whole.Given as goal

abbrev pub invariant-loop-rest : goal.invariant-loop-rest
invariant-loop-rest g l =
    (t : List Answered)
    × Left (form (meant l.initial.session) l.initial.kept l.initial.held) (buffers l.initial.reals l.initial.imags) l.piece l.rest t
    (form (meant l.session) l.kept l.held) (buffers l.reals l.imags)
    × Filled l.initial.answers l.initial.filled t l.filled l.answers

abbrev pub decreases-loop-rest : goal.decreases-loop-rest
decreases-loop-rest g l = length l.rest
