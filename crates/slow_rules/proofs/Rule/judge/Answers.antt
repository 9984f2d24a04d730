-- `slow_rules::Rule::judge` meets its contract: a gate that is fed no number has no test of its own. Assumes nothing.
use mathlib.Core.Logic.{⊎_elim}
use Rattle.seated.proofs.Judged.{none_judged}
use Rattle.slow_rules.proofs.Rule.judge.Goals as goal

pub returns-in-H : goal.returns-in-H
returns-in-H c =
    ⊎_elim (λ e. rw e none_judged) (⊎_elim (λ e. rw e none_judged) (⊎_elim (λ e. rw e none_judged) (λ e. rw e none_judged))) c.in-H.is
