-- `uppers::turn` meets its contract: the places that the fixed bits choose are those that the controls choose. Assumes nothing.
use mathlib.Core.Path.{refl}
use Rattle.pairs.proofs.Halves.{uppers_gate}
use Rattle.pairs.specs.Gates.{upper_rule}
use Rattle.uppers.proofs.Skips.{chosen_picked}
use Rattle.uppers.proofs.turn.Goals as goal

pub returns-then-fixed-eq0 : goal.returns-then-fixed-eq0
returns-then-fixed-eq0 g c = let up = g.R.UpperRule.upper c.args.rule in
    uppers_gate (upper_rule up) up c.requires (λ p. refl) _ (chosen_picked c.args.controls) c.by_target.ensures

pub returns : goal.returns
returns g c = let up = g.R.UpperRule.upper c.args.rule in
    uppers_gate (upper_rule up) up c.requires (λ p. refl) _ (chosen_picked c.args.controls) c.turn_blocks.ensures
