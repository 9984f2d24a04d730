-- `operands::is_zero` meets its contract: both zeros equal 0.0, and nothing else does. Assumes nothing.
use mathlib.Core.Path.{ap, ◌∙◌}
use lib.Ieee.{eq}
use Rattle.operands.proofs.Floats.{zero_is, zero_test_is}
use Rattle.operands.proofs.is_zero.Goals as goal

pub returns : goal.returns
returns c = ap (eq c.args.x) zero_is ∙ zero_test_is c.args.x
