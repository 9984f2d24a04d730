-- A field of this tag and this length stands at the start of the bytes, with these contents, and this follows it. Definitions only. Assumes nothing.
use Rattle.std.specs.Prelude.{ℕ, ◌+◌, List, true, length, take, drop, ◌≡◌}
use Rattle.book.specs.Records.{starts}

pub record Listed (tag len : ℕ) (bs contents rest : List ℕ) : Type 0 where
  pub there : starts tag len bs ≡ true
  pub size : length contents ≡ len
  pub holds : contents ≡ take len (drop 3 bs)
  pub follows : rest ≡ drop (3 + len) bs
