-- `stream::end_line` puts the words of the END line one behind the other. Assumes nothing.
use Prim.Native.Nat.{◌≤◌}
use lib.ListN.{length}
use Rattle.words.proofs.Writing.{then, line}
use borrow.Author.Rules.{rules}
use Rattle.stream.proofs.end_line.Goals as goal

pub returns : goal.returns
returns c = let room : 39 ≤ length c.args.out.now = search rules in
    let put = line room
    (then c.add-behind_end.ensures
    (then c.add_number-behind_count.ensures
    (then c.add-behind_word.ensures
    (then c.add_mark-behind_mark.ensures c.add.ensures)))) in
    record { of = λ s count same. rw (count, same) put; counts = put.counts }
