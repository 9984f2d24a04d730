-- What the program reads behind the header: a frame. Definitions only. Assumes nothing.
use Rattle.std.specs.Prelude.{ℕ, ◌+◌, cond, not, List, ltb, eqb, length, take, drop, get_or}
use Rattle.book.specs.Records.{number, most_bytes}
use Rattle.frames.specs.declared.Next.{Next}
use Rattle.frames.specs.declared.Next.TheVariants.{Whole, Over, Wrong, More}

-- a frame over 94 bytes is read past; any other is a delivery once it is whole
abbrev pub sized : ℕ → ℕ → Next
sized have len = cond (ltb most_bytes len) (Over len) (cond (ltb have (3 + len)) More (Whole len))

-- 20, length, record: what the bytes behind the last frame begin with
unfoldable pub next_of : List ℕ → Next
next_of bs =
    cond (eqb (length bs) 0) More
    (cond (not (eqb (get_or bs 0 0) 0x20)) Wrong
    (cond (ltb (length bs) 3) More
    (sized (length bs) (number (take 2 (drop 1 bs))))))
