-- `c_api::deliveries::deliver_all` meets its contract: the words that each call leaves are the book's session, so each turn is one delivery of the book's.
-- Assumes nothing.
use Rattle.book.specs.Answers.{buffers}
use Rattle.keeping.specs.Kept.{session_in}
use Rattle.once.proofs.Loop.{Left}
use Rattle.once.specs.AllOnce.{bench}
use Rattle.c_api.proofs.deliveries.deliver_all.Given as goal

abbrev pub invariant-loop-asked : goal.invariant-loop-asked
invariant-loop-asked l =
    Left l.bytes l.lengths (bench (session_in l.initial.session) (buffers l.initial.reals l.initial.imags)) l.rest l.asked-index
    (bench (session_in l.session) (buffers l.reals l.imags))
