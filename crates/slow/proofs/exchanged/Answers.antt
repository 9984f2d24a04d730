-- `slow::exchanged` meets its contract: a bit times its power is below 2 ^ 24, so nothing is lost. Assumes nothing.
use native.Mathlib.Omega.{arith}
use Rattle.slow.proofs.Reach.{Moves, moves}
use Rattle.slow.proofs.exchanged.Goals as goal

pub overflow_add-result-2 : goal.overflow_add-result-2
overflow_add-result-2 c = let it : (Moves c.args.t0 c.args.t1 c.args.i) = moves c.args.t0 c.args.t1 c.args.i c.requires.0 c.requires.1 in
    rw (it.up0, it.up1) (record { fits = omega (arith, it.most, c.requires.2) })
