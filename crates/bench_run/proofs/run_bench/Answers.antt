-- A run begins as the definition says: a session that starts, and the state real 1 at index 0 in the places of n qubits.
use Rattle.std.proofs.Common.{refl}
use lib.Ieee.{of_int, of_bits}
use Rattle.first_state.proofs.First.{first_lent}
use Rattle.bench_run.proofs.Going.{ends_well, from_start}
use Rattle.bench_run.proofs.run_bench.Goals as goal

pub run_session-requires : goal.run_session-requires
unfolding of_int of_bits
run_session-requires g c =
    let h = c.args.header in
    record {
      n = h.n;
      own = h.session;
      few = h.few;
      run = c.start.ensures;
      state = first_lent h.n h.few c.first_reals-reals.result c.first_reals-reals.ensures refl;
    }

pub returns : goal.returns
unfolding of_int of_bits
returns g c =
    let h = c.args.header in
    let state = first_lent h.n h.few c.first_reals-reals.result c.first_reals-reals.ensures refl in
    ends_well _ (from_start h.n h.session _ _ _ _ c.start.ensures state) c.run_session.ensures
