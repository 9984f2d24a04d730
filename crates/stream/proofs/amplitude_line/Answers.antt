-- `stream::amplitude_line` puts the words of an A line one behind the other. Assumes nothing.
use Prim.Native.Nat.{◌≤◌}
use lib.ListN.{length}
use Rattle.words.proofs.Writing.{then, line}
use borrow.Author.Rules.{rules}
use Rattle.stream.proofs.amplitude_line.Goals as goal

pub returns : goal.returns
returns c = let room : (57 ≤ length c.args.out.now) = search rules in
    line room
    (then c.add-behind_a.ensures
    (then c.add_number-behind_index.ensures
    (then c.add-behind_blank.ensures
    (then c.add_bits-behind_re.ensures
    (then c.add-behind_next.ensures
    (then c.add_bits-behind_im.ensures c.add.ensures))))))
