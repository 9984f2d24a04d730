-- `delivery_lines::delivery_line` puts the words of a D line one behind the other. Assumes nothing.
use Prim.Native.Nat.{◌≤◌}
use lib.ListN.{length}
use Rattle.words.proofs.Writing.{then, line}
use borrow.Author.Rules.{rules}
use Rattle.delivery_lines.proofs.delivery_line.Goals as goal

pub returns : goal.returns
returns c = let room : (106 ≤ length c.args.out.now) = search rules in
    line room
    (then c.add-behind_d.ensures
    (then c.add_number-behind_index.ensures
    (then c.add_saying-behind_reply.ensures
    (then c.add-behind_word.ensures
    (then c.add_number-behind_count.ensures
    (then (rw c.value_told.ensures at c.add_value-behind_value.ensures) c.add.ensures))))))
