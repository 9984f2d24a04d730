-- `uppers::on_uppers` meets its contract: what was judged is seated. Assumes nothing.
use Rattle.pairs.proofs.Gate.{gate_seated}
use Rattle.uppers.proofs.on_uppers.Goals as goal

pub turn-requires : goal.turn-requires
turn-requires g c = gate_seated g.G.Fed.MOST _ _ _ _ (g.G.Fed.own c.args.gate) c.in_ok-judge.ensures
