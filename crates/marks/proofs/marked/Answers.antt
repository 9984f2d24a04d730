-- `marks::marked` meets its contract: the mark over what is left, from here, is the mark over all of it. Assumes nothing.
use Rattle.std.proofs.Common.{sym, ◌∙◌, arith}
use Rattle.marks.proofs.Steps.{left_none, left_step}
use Rattle.marks.proofs.marked.Goals as goal

pub loop-byte-preserved : goal.loop-byte-preserved
loop-byte-preserved c = left_step c.args.bytes.now c.loop-byte.next _ c.loop-byte.byte-index (omega arith) c.moved-next.ensures ∙ c.loop-byte.invariant

pub returns : goal.returns
returns c = let a = c.args in
    let o = c.loop-byte in
    sym (left_none a.bytes.now o.next o.byte-index (omega arith)) ∙ o.invariant
