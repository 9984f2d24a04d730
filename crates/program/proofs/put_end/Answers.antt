-- `program::put_end` meets its contract: the session's count, and whether the input is cut, as the form says. Assumes nothing.
use Rattle.std.proofs.Common.{refl}
use Rattle.sessions.specs.Deliveries.{meant}
use Rattle.program.proofs.put_end.Goals as goal

pub returns : goal.returns
returns c = rw (← c.is_cut.ensures) (c.put_closing.ensures (meant c.args.end.feed.session) refl refl)
