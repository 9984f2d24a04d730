-- `feeding::Feed::take_all` meets its contract: each turn takes one piece more, whose answers are stored behind those before them. Assumes nothing.
use native.Mathlib.Omega.{arith}
use mathlib.Core.List.{[], ◌++◌}
use borrow.Author.Rules.{rules}
use Rattle.feeding.proofs.Loop.{no_pieces, next_piece}
use Rattle.feeding.proofs.Numbers.{filled_none, filled_then}
use Rattle.feeding.proofs.Feed.take_all.Goals as goal

pub loop-asked-init : goal.loop-asked-init
loop-asked-init g c = ([], no_pieces _ _ _ _, filled_none _ _ (omega arith))

pub loop-asked-preserved : goal.loop-asked-preserved
loop-asked-preserved g c = let inv = c.loop-asked.invariant in
    let took = c.take_whole-filling.ensures in (
      inv.0 ++ _,
      next_piece inv.1 (omega arith) c.next_size.ensures c.split_at.ensures.front c.split_at.ensures.back took.takes (search rules),
      filled_then inv.2 took.filled,
    )
