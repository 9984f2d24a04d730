-- `slow_swaps::judge` meets its contract: the outputs, and then the inputs. Assumes nothing.
use Rattle.book.specs.Lent.{shown_here}
use Rattle.into.proofs.Judged.{both_judged}
use Rattle.seated.specs.Judging.{free_tests}
use Rattle.slow_swaps.proofs.judge.Goals as goal

pub returns : goal.returns
returns c =
    let a = c.args in
    rw c.and.ensures
    (both_judged a.n (shown_here a.sr a.si) (shown_here a.reals a.imags) (free_tests a.n a.target) c.size-outputs.result c.size-outputs.ensures
    c.free_seat-inputs.ensures)
