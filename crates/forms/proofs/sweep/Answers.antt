-- `forms::sweep` meets its contract: the rule put to one pair, or the runs. Assumes nothing.
use native.Mathlib.Omega.{arith}
use Rattle.pairs.proofs.Keys.{size_is}
use Rattle.forms.proofs.Single.{single_swept}
use Rattle.forms.proofs.sweep.Goals as goal

pub returns-then-fixed-size : goal.returns-then-fixed-size
returns-then-fixed-size g c = single_swept c.requires (omega (arith, c.if-fixed-size.true, size_is c.requires)) c.step.ensures
