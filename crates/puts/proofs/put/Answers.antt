-- `puts::put` stores as many words as find room; behind the buffer's end nothing is stored. Assumes nothing.
use native.Mathlib.Omega.{arith}
use mathlib.Core.Path.{sym}
use borrow.Author.Rules.{rules}
use Rattle.puts.proofs.Puts.{store_out, put_part}
use Rattle.puts.proofs.put.Goals as goal

pub returns-then-out-at : goal.returns-then-out-at
returns-then-out-at c = let a = c.args in
    record { behind = search rules; stored = sym (store_out a.out.now a.at a.words.now (omega arith)) }

pub returns : goal.returns
returns c = let a = c.args in
    let p = put_part a.words.now a.out.now a.at _ (omega arith) c.min-n.ensures c.store.ensures in
    record { behind = omega (arith, p.behind); stored = p.stored }
