-- Fields 01 to 04 of a record. Definitions only. Assumes nothing.
use Rattle.std.specs.Prelude.{ℕ, List, ◌++◌}
use Rattle.book.specs.Records.{bytes, field}

abbrev pub head_of : ℕ → ℕ → ℕ → ℕ → List ℕ
head_of session number code target =
    field 0x01 (bytes 4 session) ++ field 0x02 (bytes 2 number) ++ field 0x03 (bytes 1 code) ++ field 0x04 (bytes 1 target)
