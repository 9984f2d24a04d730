-- `dots::row_dot` meets its contract: one inner index more in each turn. Assumes nothing.
use mathlib.Core.Path.{◌≡◌}
use Rattle.book.specs.Answers.{buffers}
use Rattle.dots.specs.Dots.{state_dot}
use Rattle.dots.proofs.row_dot.Given as goal

abbrev pub invariant-loop-inner : goal.invariant-loop-inner
invariant-loop-inner l = l.sum ≡ state_dot (buffers l.ar l.ai) l.from (buffers l.br l.bi) l.inner
