-- `roots::root_digits`: after i digits what `Running` says.
use Rattle.roots.proofs.Digits.{Running}
use Rattle.roots.proofs.root_digits.Given as goal

abbrev pub invariant-loop-i : goal.invariant-loop-i
invariant-loop-i l = Running l.n l.d.a l.d.q l.d.r l._i
