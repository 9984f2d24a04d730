-- What the program prints beside its deliveries: each line as its bytes. Definitions only. Assumes nothing.
use Rattle.std.specs.Prelude.{ℕ, List, ◌++◌, Float}
use Rattle.book.specs.Sessions.{Session}
use Rattle.words.specs.Text.{text}
use Rattle.words.specs.Words.{decimal, bits, mark_digits}

abbrev pub amplitude_line : ℕ → Float → Float → List ℕ
amplitude_line i re im = text "A " ++ (decimal i ++ (text " " ++ (bits re ++ (text " " ++ (bits im ++ text "\n")))))

abbrev pub end_line : Session → List ℕ
end_line s = text "END " ++ (decimal s.count ++ (text " MARK " ++ (mark_digits s.mark ++ text "\n")))

abbrev pub cut_line : List ℕ
cut_line = text "CUT\n"

abbrev pub bad_header_line : List ℕ
bad_header_line = text "BAD HEADER\n"
