-- `splits::with_all` meets its contract: 0 is no upper part. Assumes nothing.
use mathlib.Core.Bool.{not, true≢false}
use mathlib.Core.Path.{refl, sym, ap}
use lib.Ieee.{eq, ne, of_bits}
use Rattle.splits.proofs.with_all.Goals as goal

pub returns-then-q : goal.returns-then-q
unfolding eq ne of_bits
returns-then-q c = λ h. absurd (true≢false (sym h))

pub returns : goal.returns
unfolding eq ne of_bits
returns c = λ h. record {
  is = refl;
  q_there = ap not c.if-q.false;
  u_there = ap not c.if-u.false;
  v_there = ap not c.if-v.false;
  w_there = ap not c.if-w.false;
  e_there = ap not c.if-e.false;
}
