-- `judging::all_finite` meets its contract, with no file beside it: what `all` answers is whether each passes the closure's test. Assumes nothing.
use Rattle.std.proofs.Common.{rules, tests}
use Rattle.std.proofs.lemmas.Iterator.{YieldsList-from_slice}
use Rattle.std.proofs.lemmas.Iterator.Search.{all_from_yields_List}
use Rattle.std.specs.Float.Ieee.Scale.{finite}
use Rattle.judging.proofs.all_finite.Goals as goal

pub returns : goal.returns
returns c = all_from_yields_List finite _ _ _ c.all.ensures.ran (YieldsList-from_slice c.args.numbers.now cc) (λ x b q k. search (rules, tests))
