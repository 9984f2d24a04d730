-- The contracts of the calls that read and write a record. Definitions only. Assumes nothing.
use Rattle.std.specs.Prelude.{ℕ, cond, List, ◌≡◌, Float, Option, Some, None}
use Rattle.book.specs.Answers.{Gives, gives, denied}
use Rattle.book.specs.Records.{wrote_of, left_by}
use Rattle.book.specs.declared.Record.{Record}
use Rattle.flat.specs.Numbers.{flat_fields, flat_numbers, over, too_few}

-- Reading: 8 where the bytes are no record, else 12 where fewer places are lent, else 0.
abbrev pub read_code : Option Record → List ℕ → List Float → ℕ
read_code None fs xs = 8
read_code (Some r) fs xs = cond (too_few fs xs) 12 0

abbrev pub fields_after : Option Record → List ℕ → List Float → List ℕ
fields_after None fs xs = fs
fields_after (Some r) fs xs = cond (too_few fs xs) fs (over (flat_fields r) fs)

abbrev pub numbers_after : Option Record → List ℕ → List Float → List Float
numbers_after None fs xs = xs
numbers_after (Some r) fs xs = cond (too_few fs xs) xs (over (flat_numbers r) xs)

pub record Reads (read : Option Record) (fs : List ℕ) (xs : List Float) (code : ℕ) (fs' : List ℕ) (xs' : List Float) : Type 0 where
  pub answers : code ≡ read_code read fs xs
  pub fields : fs' ≡ fields_after read fs xs
  pub numbers : xs' ≡ numbers_after read fs xs

-- Writing: 8 where the numbers are no record's, else how many bytes, or 12.
abbrev pub written_number : Gives ℕ → ℕ
written_number (gives k) = k
written_number (denied k) = k

abbrev pub write_code : Option Record → List ℕ → ℕ
write_code None out = 8
write_code (Some r) out = written_number (wrote_of r out)

abbrev pub out_after : Option Record → List ℕ → List ℕ
out_after None out = out
out_after (Some r) out = left_by r out

pub record Writes (it : Option Record) (out : List ℕ) (code : ℕ) (out' : List ℕ) : Type 0 where
  pub answers : code ≡ write_code it out
  pub leaves : out' ≡ out_after it out
