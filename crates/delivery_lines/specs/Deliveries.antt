-- What the program prints of a delivery, as its bytes. Definitions only. Assumes nothing.
use Rattle.std.specs.Prelude.{ℕ, List, [], ◌++◌, Option, Some, None}
use Rattle.book.specs.Answers.{Said, taken, value, refused, Replied, again, said}
use Rattle.words.specs.Text.{text}
use Rattle.words.specs.Words.{decimal}

abbrev pub answering : Said → List ℕ
answering taken = text " TAKEN"
answering (value v) = text " TAKEN"
answering (refused k) = text " REFUSED " ++ decimal k

abbrev pub saying : Replied → List ℕ
saying (again v) = text " AGAIN"
saying (said x) = answering x

-- a taken measurement or flip has a value, and so has an AGAIN that tells one
abbrev pub value_of : Said → Option ℕ
value_of taken = None
value_of (value v) = Some v
value_of (refused k) = None

abbrev pub value_told : Replied → Option ℕ
value_told (again v) = v
value_told (said x) = value_of x

-- it stands behind the count
abbrev pub adding : Option ℕ → List ℕ
adding None = []
adding (Some v) = text " VALUE " ++ decimal v

abbrev pub delivery_line : ℕ → Replied → ℕ → List ℕ
delivery_line i reply count =
    text "D " ++ (decimal i ++ (saying reply ++ (text " COUNT " ++ (decimal count ++ (adding (value_told reply) ++ text "\n")))))
