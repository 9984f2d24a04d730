-- `program::put_told` meets its contract: one line, or none. Assumes nothing.
use Rattle.std.proofs.Common.{arith}
use Rattle.program.proofs.Pieces.{told_none}
use Rattle.program.proofs.put_told.Goals as goal

pub returns-in_default : goal.returns-in_default
returns-in_default c =
    let none = told_none c.args.index c.args.count c.in_default.is (omega arith) c.requires in
    record { put = none.0; index = none.1 }
