-- Eight bytes are enough for a header, and fewer are none: the program reads these and no more before it judges it. Assumes nothing.
use native.Mathlib.Omega.{arith}
use Prim.Native.Nat.{ℕ}
use Prim.Native.Nat.{◌<◌}
use mathlib.Core.Bool.{Bool, true, false, ◌&&◌}
use mathlib.Core.Path.{◌≡◌, refl}
use Rattle.std.specs.Prelude.{None}
use lib.Dec.{eqb}
use lib.ListN.{get_or, drop}
use Rattle.book.specs.Records.{number}
use mathlib.Core.List.{List, [], ◌∷◌}
use lib.ListN.{length, take}
use borrow.Author.Tests.{le-leb, lt-leb}
use Rattle.headers.specs.Headers.{header_of}

and_false : (a : Bool) → a && false ≡ false
and_false true = refl
and_false false = refl

pub too_short : (s : List ℕ) → length s < 8 → None ≡ header_of s
too_short s h = rw (lt-leb 8 (length s) h, and_false (eqb (number (take 2 (drop 1 s))) 5), and_false (eqb (get_or s 0 0) 0x21))

pub header_eight : (bs : List ℕ) → header_of (take 8 bs) ≡ header_of bs
header_eight [] = refl
header_eight (a ∷ []) = refl
header_eight (a ∷ b ∷ []) = refl
header_eight (a ∷ b ∷ c ∷ []) = refl
header_eight (a ∷ b ∷ c ∷ d ∷ []) = refl
header_eight (a ∷ b ∷ c ∷ d ∷ e ∷ []) = refl
header_eight (a ∷ b ∷ c ∷ d ∷ e ∷ f ∷ []) = refl
header_eight (a ∷ b ∷ c ∷ d ∷ e ∷ f ∷ g ∷ []) = refl
header_eight (a ∷ b ∷ c ∷ d ∷ e ∷ f ∷ g ∷ h ∷ bs) =
    rw (le-leb 8 (length (a ∷ b ∷ c ∷ d ∷ e ∷ f ∷ g ∷ h ∷ bs)) (omega arith))
