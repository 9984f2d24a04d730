-- `writer::write_record` meets the book's writing of a record: the record's bytes in front and the rest untouched, or refusal 12 and nothing
-- touched. Assumes nothing.
use Rattle.writer.proofs.Whole.{wrote}
use Rattle.writer.proofs.write_record.Goals as goal

pub returns : goal.returns
returns c = let a = c.args in
    let both = wrote a.it a.out.now c.parts_of-code.result c.parts_of-code.ensures c.size_of.result c.size_of.ensures _ _ _ _
    c.if-out-size_of.false c.store_head-behind.ensures c.store_shape.ensures in
    record { answers = both.0; leaves = both.1 }
