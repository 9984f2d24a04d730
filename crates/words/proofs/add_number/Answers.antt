-- `words::add_number` stores the fewest digits, which are those of the definition. Assumes nothing.
use Prim.Native.Nat.{◌≤◌}
use native.Mathlib.Omega.{arith}
use mathlib.Core.Path.{◌∙◌}
use Rattle.words.specs.Words.{decimal}
use Rattle.words.proofs.Writing.{these, few, decimal_is}
use Rattle.words.proofs.add_number.Goals as goal

pub returns : goal.returns
returns c =
    let d = c.decimal-k in
    let n = c.args.n in
    let most : d.result ≤ 20 = few 10 1 20 d.result n (omega arith) (omega arith) (omega arith) d.ensures.len.2 in
    these (decimal n) 20 (d.ensures.digits ∙ decimal_is d.result n most d.ensures.len)
    (omega (arith, most, d.ensures.in_bounds.1)) c.add.ensures
