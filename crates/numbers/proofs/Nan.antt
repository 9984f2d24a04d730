-- The logic has one NaN. Assumes nothing.
use mathlib.Core.Bool.{true}
use mathlib.Core.Path.{◌≡◌, refl}
use lib.Ieee.{Float, nan, inf, fin, is_nan}

pub one_nan : (x : Float) → is_nan x ≡ true → nan ≡ x
unfolding is_nan
one_nan nan e = refl
one_nan (inf s) e = cc
one_nan (fin s m d) e = cc
