-- `feeding::Feed::take_all` meets its contract: each turn takes one piece more, whose answers are stored behind those before them. Assumes nothing.
use mathlib.Core.List.{List}
use Rattle.book.specs.Answers.{buffers}
use Rattle.once.specs.Answered.{Answered}
use Rattle.sessions.specs.Deliveries.{meant}
use Rattle.feeding.specs.Feeding.{form, Filled}
use Rattle.feeding.proofs.Loop.{Pieces}
use Rattle.feeding.proofs.Feed.take_all.Given as goal

abbrev pub invariant-loop-asked : goal.invariant-loop-asked
invariant-loop-asked g l =
    (t : List Answered)
    × Pieces l.bytes l.lengths (form (meant l.initial.filling.session) l.initial.filling.kept l.initial.held)
    (buffers l.initial.reals l.initial.imags) l.rest l.asked-index t
    (form (meant l.filling.session) l.filling.kept l.held) (buffers l.reals l.imags)
    × Filled l.initial.answers 0 t l.filling.filled l.answers
