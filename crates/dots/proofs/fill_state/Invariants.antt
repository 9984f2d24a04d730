-- `dots::fill_state` meets its contract: one row more in each turn. Assumes nothing.
use Prim.Native.Nat.{◌*◌}
use Rattle.book.specs.Answers.{buffers}
use Rattle.matrices.specs.Filled.{Filled}
use Rattle.dots.specs.Dots.{state_dot}
use Rattle.dots.proofs.fill_state.Given as goal

abbrev pub invariant-loop-row : goal.invariant-loop-row
invariant-loop-row l =
    Filled 0 l.row (λ r. state_dot (buffers l.ar l.ai) (r * l.side) (buffers l.br l.bi) l.side) (buffers l.initial.reals l.initial.imags)
    (buffers l.reals l.imags)
