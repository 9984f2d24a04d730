-- `stream::bad_header_line`: the line is its bytes. Assumes nothing.
use Prim.Native.Nat.{◌≤◌}
use lib.ListN.{length}
use Rattle.words.proofs.Writing.{line}
use borrow.Author.Rules.{rules}
use Rattle.stream.proofs.bad_header_line.Goals as goal

pub returns : goal.returns
returns c = let room : 11 ≤ length c.args.out.now = search rules in line room c.add.ensures
