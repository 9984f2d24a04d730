-- `whole_run::put_run` meets its contract: a run from the start, in the places of n qubits. Assumes nothing.
use mathlib.Core.Path.{refl}
use lib.Ieee.{of_int, of_bits}
use Rattle.first_state.proofs.First.{first_lent}
use Rattle.whole_run.proofs.Whole.{from_start}
use Rattle.whole_run.proofs.put_run.Goals as goal

pub returns : goal.returns
unfolding of_int of_bits
returns g c = let h = c.args.header in
    from_start h.n h.session c.args.frames.now c.start.ensures
    (first_lent h.n h.few c.first_reals-reals.result c.first_reals-reals.ensures refl)
    c.put_lines.ensures
