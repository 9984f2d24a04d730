-- Lists of bytes, and what holds of each float of a list. Definitions only. Assumes nothing.
use Rattle.std.specs.Prelude.{ℕ, ◌<◌, not, List, [], ◌∷◌, T, Float, get_or}
use Rattle.std.specs.Float.{binary64}
use Rattle.std.specs.Float.Ieee.{fits, is_nan}

-- every entry is below 256, as in a slice of u8
abbrev pub Bytes : List ℕ → Type 0
Bytes bs = (i : ℕ) → get_or bs i 0 < 256

-- a value of f64
abbrev pub IsF64 : Float → Type 0
IsF64 x = T (fits binary64 x)

abbrev pub NotNan : Float → Type 0
NotNan x = T (not (is_nan x))

abbrev pub Each : (Float → Type 0) → List Float → Type 0
Each Q [] = Unit
Each Q (x ∷ xs) = Q x × Each Q xs
