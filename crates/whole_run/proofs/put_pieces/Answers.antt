-- `whole_run::put_pieces` meets its contract: each turn prints the next piece behind those before it. Assumes nothing.
use native.Mathlib.Omega.{arith}
use mathlib.Core.Path.{ap, ◌∙◌}
use borrow.Author.Rules.{rules}
use Rattle.std.specs.Slice.Iter.{chunks_rest, chunks_size}
use Rattle.whole_run.proofs.Whole.{part_none, part_more, part_all}
use Rattle.whole_run.proofs.put_pieces.Goals as goal

pub loop-piece-init : goal.loop-piece-init
loop-piece-init g c =
    let made = c.into_iter-piece-iterator.ensures.into_iter_gives in
    let chunks = c.chunks-piece-items.ensures in
    let size = ap chunks_size made ∙ chunks.size in
    (omega arith, part_none (omega arith) (ap chunks_rest made ∙ chunks.rest))

pub loop-piece-preserved : goal.loop-piece-preserved
loop-piece-preserved g c =
    let inv = c.loop-piece.invariant in
    let next = c.in-Some.ensures.steps in
    (omega (arith, next.0), part_more inv.1 next.1.0 c.put_piece-printed.ensures (search rules))

pub returns : goal.returns
returns g c = part_all c.loop-piece.invariant.1 c.in-None.ensures.steps.1.0
