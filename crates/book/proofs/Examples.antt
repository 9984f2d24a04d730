-- The examples hold: antt works out one test over the whole list, and a lemma turns the test into each equation. Assumes nothing.
use Prim.Native.Nat.{ℕ}
use mathlib.Core.Bool.{Bool, true, false, ◌&&◌}
use mathlib.Core.List.{List, [], ◌∷◌}
use mathlib.Core.Path.{◌≡◌, refl, ap₂}
use lib.Count.{ones}
use lib.Dec.{T, eqb, eqb→eq}
use lib.Ieee.{add, sub, mul, div, le, lt, eq}
use lib.Ieee.Fits.{and_l, and_r}
use Rattle.numbers.specs.Fused.{fused, root}
use Rattle.book.specs.Answers.{first}
use Rattle.book.specs.Examples.{Example, Hold, twelve, since}
use Rattle.book.specs.Kernels.{size_tests, seat_tests, swapped}
use Rattle.book.specs.Measuring.{measured, probability, summed}
use Rattle.book.specs.Records.{listed}
use Rattle.book.specs.Sessions.{marked, deliver}
use Rattle.book.specs.State.{tabulate, held, chosen, choice, placed, on_pairs}

abbrev alike : List ℕ → List ℕ → Bool
alike [] [] = true
alike [] (y ∷ ys) = false
alike (x ∷ xs) [] = false
alike (x ∷ xs) (y ∷ ys) = eqb x y && alike xs ys

abbrev right : List Example → Bool
right [] = true
right (e ∷ es) = alike e.gives e.paper && right es

alike_same : (xs ys : List ℕ) → T (alike xs ys) → xs ≡ ys
alike_same [] [] w = refl
alike_same [] (y ∷ ys) w = absurd w
alike_same (x ∷ xs) [] w = absurd w
alike_same (x ∷ xs) (y ∷ ys) w =
    ap₂ ◌∷◌ (eqb→eq x y (and_l (eqb x y) (alike xs ys) w)) (alike_same xs ys (and_r (eqb x y) (alike xs ys) w))

right_hold : (es : List Example) → T (right es) → Hold es
right_hold [] w = tt
right_hold (e ∷ es) w =
    let same = alike e.gives e.paper in
    (alike_same e.gives e.paper (and_l same (right es) w), right_hold es (and_r same (right es) w))

pub all_twelve : Hold twelve
unfolding twelve fused root first size_tests seat_tests swapped measured probability summed listed deliver tabulate held chosen choice placed on_pairs
    le lt eq div add sub mul ones
all_twelve = right_hold twelve tt

pub all_since : Hold since
unfolding since root first size_tests seat_tests measured probability summed listed marked deliver tabulate held chosen choice placed on_pairs
    le lt eq div add sub mul ones
all_since = right_hold since tt
