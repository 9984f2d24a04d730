-- `sessions::Session::deliver_all` meets its contract: each turn is one delivery of the book's, and what is left comes to what all comes to. Assumes nothing.
use Rattle.book.specs.Answers.{buffers}
use Rattle.once.proofs.Loop.{Left}
use Rattle.once.specs.AllOnce.{bench}
use Rattle.sessions.specs.Deliveries.{meant}
use Rattle.sessions.proofs.Session.deliver_all.Given as goal

abbrev pub invariant-loop-asked : goal.invariant-loop-asked
invariant-loop-asked g l =
    Left l.bytes l.lengths (bench (meant l.initial.session) (buffers l.initial.reals l.initial.imags)) l.rest l.asked-index
    (bench (meant l.session) (buffers l.reals l.imags))
