-- `printing::put_state` puts an A line for each place: what is left to print, put, gives all of them. Assumes nothing.
use native.Mathlib.Omega.{arith}
use mathlib.Core.Path.{◌∙◌}
use lib.Ieee.{nan}
use Rattle.puts.proofs.Puts.{put_length, put_within, left_step, left_none}
use Rattle.printing.proofs.States.{none_left, line_next}
use Rattle.printing.proofs.put_state.Goals as goal

pub loop-place-preserved : goal.loop-place-preserved
loop-place-preserved c = let o = c.loop-place in
    let a = c.args in
    let put = c.put_place-next.ensures in
    let here = line_next a.reals.now a.imags.now nan o.place (omega (arith, c.min-place-end.ensures)) (omega (arith, c.min-place-end.ensures)) in
    (put_within put, put_length put ∙ o.invariant.1, left_step here o.invariant.2 put)

pub returns : goal.returns
returns c = let o = c.loop-place in
    let a = c.args in
    left_none (none_left a.reals.now a.imags.now o.place (omega (arith, c.min-place-end.ensures))) o.invariant.0 o.invariant.2
