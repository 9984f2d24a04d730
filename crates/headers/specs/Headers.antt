-- What the program reads first: a header. Definitions only. Assumes nothing.
use Rattle.std.specs.Prelude.{ℕ, cond, List, take, drop, get_or, Option, Some, None}
use Rattle.book.specs.Kernels.{bad_size}
use Rattle.book.specs.Records.{number, starts}

-- n is 1 to 11 in the program
abbrev pub most_in_program : ℕ
most_in_program = 11

-- 21 0005, n (1 byte), session (4): n and the session, or none
abbrev pub header_of : List ℕ → Option (ℕ × ℕ)
header_of bs =
    cond (starts 0x21 5 bs)
    (cond (bad_size most_in_program (get_or bs 3 0)) None (Some (get_or bs 3 0, number (take 4 (drop 4 bs)))))
    None
