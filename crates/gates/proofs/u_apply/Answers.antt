-- `gates::u_apply` meets its contract: what was judged is seated. Assumes nothing.
use Rattle.book.specs.Gates.{angles_of, finite_tests}
use Rattle.pairs.proofs.Gate.{gate_seated}
use Rattle.gates.proofs.u_apply.Goals as goal

pub put_chosen-requires : goal.put_chosen-requires
put_chosen-requires c = gate_seated 1 _ _ _ _ (finite_tests (angles_of c.args.angles)) c.in_ok-judge.ensures
