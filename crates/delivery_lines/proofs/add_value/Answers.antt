-- `delivery_lines::add_value` adds a value, and nothing where there is none. Assumes nothing.
use Rattle.words.proofs.Writing.{then, nothing}
use Rattle.delivery_lines.proofs.add_value.Goals as goal

pub returns-in_default : goal.returns-in_default
returns-in_default c = rw c.in_default.is (nothing 27 _ _)

pub returns : goal.returns
returns c = rw c.in-Some.is (then c.add-behind.ensures c.add_number.ensures)
