-- `printing::put_closing` puts its parts one behind the other; behind CUT stands a place of the buffer, as the A lines ask. Assumes nothing.
use Rattle.puts.proofs.Puts.{put_then, put_line}
use Rattle.printing.proofs.put_closing.Goals as goal

pub returns : goal.returns
returns c = λ s count mark. put_then c.put_cut-behind_cut.ensures
    (put_then c.put_state-behind_state.ensures
    (put_line (c.end_line-n.ensures.of s count mark) c.put.ensures))
