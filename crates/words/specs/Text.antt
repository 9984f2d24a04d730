-- A quoted text as its bytes. Definitions only. Assumes nothing.
use Prim.Native.Char.{code}
use Rattle.std.specs.Prelude.{ℕ, List, [] as none, ◌∷◌ as ◌before◌}
use Prim.Native.String.{String, [], ◌∷◌}

abbrev pub text : String → List ℕ
text [] = none
text (c ∷ s) = code c before text s
