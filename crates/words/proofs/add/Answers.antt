-- `words::add` stores byte after byte: what is left to store, stored, gives the whole. Assumes nothing.
use Prim.Native.Nat.{◌+◌}
use native.Mathlib.Omega.{arith}
use mathlib.Core.Path.{sym, ◌∙◌}
use lib.ListN.{length-set}
use Rattle.words.proofs.Writing.{stored_none, stored_step}
use borrow.Author.Rules.{rules}
use Rattle.words.proofs.add.Goals as goal

pub loop-i-preserved : goal.loop-i-preserved
loop-i-preserved c = let a = c.args in
    let o = c.loop-i in (
      length-set o.out (a.at + o.i) _ ∙ o.invariant.0,
      stored_step a.words.now a.at o.out o.i (omega arith) ∙ o.invariant.1,
    )

pub returns : goal.returns
returns c = let a = c.args in
    let o = c.loop-i in
    record {
      behind = search rules;
      most = omega arith;
      stored = sym (stored_none a.words.now a.at o.out o.i (omega arith)) ∙ o.invariant.1;
    }
