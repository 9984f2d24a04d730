-- `operands::is_finite` meets its contract: x - x is NaN unless x is finite. Assumes nothing.
use mathlib.Core.Bool.{not}
use mathlib.Core.Path.{ap, ◌∙◌}
use Rattle.operands.proofs.Finite.{difference_number}
use Rattle.operands.proofs.is_finite.Goals as goal

pub returns : goal.returns
returns c = ap not c.is_nan.ensures.value ∙ difference_number c.args.x
