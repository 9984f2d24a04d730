-- `delivery_lines::add_answer`: each answer in its words, a refusal with its number. Assumes nothing.
use Rattle.words.proofs.Writing.{then}
use Rattle.delivery_lines.proofs.add_answer.Goals as goal

pub returns-in-Err : goal.returns-in-Err
returns-in-Err c = rw (c.in-Err.is, ← c.from.ensures) (then c.add-behind.ensures c.add_number.ensures)
