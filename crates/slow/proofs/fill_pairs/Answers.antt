-- `slow::fill_pairs` meets its contract: at each index its closure leaves what the rule does. Assumes nothing.
use Rattle.std.proofs.Common.{rules}
use Rattle.slow.proofs.fill_pairs.Goals as goal

pub fill-requires : goal.fill-requires
fill-requires c = record { outputs = c.requires.outputs; each = let reach = c.requires.inputs in search (rules, reach) }

pub returns : goal.returns
returns c = record { size = c.fill.ensures.size; places = λ i h. let k = c.fill.ensures.places i h in search rules }
