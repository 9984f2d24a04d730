-- What a field that was read holds, over the book's reading of a field. Definitions only. Assumes nothing.
use Rattle.std.specs.Prelude.{ℕ, ◌+◌, List, true, Float, take, drop, ◌≡◌}
use Rattle.book.specs.Records.{starts, float}

-- the field stands at the start of the bytes, its contents hold this, and this follows it
pub record Holds {A : Type 0} (of : List ℕ → A) (tag len : ℕ) (bs : List ℕ) (a : A) (rest : List ℕ) : Type 0 where
  pub there : starts tag len bs ≡ true
  pub holds : a ≡ of (take len (drop 3 bs))
  pub follows : rest ≡ drop (3 + len) bs

abbrev pub two_floats : List ℕ → Float × Float
two_floats contents = (float contents 0, float contents 1)
