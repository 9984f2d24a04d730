-- `slow_act::act_over` meets its contract: what was taken is written over what was there, what was refused is not. Assumes nothing.
use mathlib.Core.Path.{sym, ap₂, ◌∙◌}
use Rattle.book.specs.Answers.{buffers}
use Rattle.slow_act.proofs.Over.{over_taken, over_refused}
use Rattle.slow_act.proofs.act_over.Goals as goal

pub returns-then-is_ok : goal.returns-then-is_ok
returns-then-is_ok c =
    over_taken c.args.n c.args.gate c.requires (sym c.ask.ensures ∙ c.in_ok-ask.was) c.act_into-answer.ensures
    (sym c.is_ok.ensures.value ∙ c.if-is_ok.true)
    (ap₂ buffers c.copy_from_slice.ensures.after c.copy_from_slice-then-is_ok.ensures.after)

pub returns-else-is_ok : goal.returns-else-is_ok
returns-else-is_ok c =
    over_refused c.args.n c.args.gate c.requires (sym c.ask.ensures ∙ c.in_ok-ask.was) c.act_into-answer.ensures
    (sym c.is_ok.ensures.value ∙ c.if-is_ok.false)
