-- `operands::with_one_nan` gives back what it got: the logic has one NaN. Assumes nothing.
use mathlib.Core.Path.{sym, ◌∙◌}
use Rattle.numbers.proofs.Nan.{one_nan}
use Rattle.operands.proofs.Floats.{nan_is}
use Rattle.operands.proofs.with_one_nan.Goals as goal

pub returns-then-is_nan : goal.returns-then-is_nan
returns-then-is_nan c = nan_is ∙ one_nan c.args.x (sym c.if-is_nan.ensures.value)
