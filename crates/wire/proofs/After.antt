-- What a record reads after each of its first four fields: `read_record bs` is `listed 0x01 4 bs λ session. after1 (number session)`. Assumes nothing.
use Prim.Native.Nat.{ℕ}
use mathlib.Core.List.{List}
use Rattle.std.specs.Prelude.{Option}
use Rattle.book.specs.Records.{number, listed, row_of, read_row, record_with}
use Rattle.book.specs.declared.Record.{Record}

abbrev pub after4 : ℕ → ℕ → ℕ → ℕ → List ℕ → Option Record
after4 session k code target rest = record_with session k (read_row (row_of code) target rest)

abbrev pub after3 : ℕ → ℕ → ℕ → List ℕ → Option Record
after3 session k code rest = listed 0x04 1 rest λ target. after4 session k code (number target)

abbrev pub after2 : ℕ → ℕ → List ℕ → Option Record
after2 session k rest = listed 0x03 1 rest λ code. after3 session k (number code)

abbrev pub after1 : ℕ → List ℕ → Option Record
after1 session rest = listed 0x02 2 rest λ k. after2 session (number k)
