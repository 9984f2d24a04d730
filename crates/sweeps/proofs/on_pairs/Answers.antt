-- `sweeps::on_pairs` meets its contract: what was judged is seated. Assumes nothing.
use Rattle.pairs.proofs.Gate.{gate_seated}
use Rattle.sweeps.proofs.on_pairs.Goals as goal

pub put_chosen-requires : goal.put_chosen-requires
put_chosen-requires g c = gate_seated g.G.Fed.MOST _ _ _ _ (g.G.Fed.own c.args.gate) c.in_ok-judge.ensures
