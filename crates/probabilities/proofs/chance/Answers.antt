-- `probabilities::chance` meets its contract: another outcome's sum stays 0. Assumes nothing.
use Rattle.probabilities.proofs.Sums.{chance_none}
use Rattle.probabilities.proofs.chance.Goals as goal

pub returns : goal.returns
returns c = chance_none _ _ _ _ c.if-outcome-lt2.false
