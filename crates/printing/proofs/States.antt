-- The A lines from a place on. Assumes nothing.
use Prim.Native.Nat.{ℕ, ◌+◌, ◌-◌, ◌≤◌, ◌<◌, min}
use native.Mathlib.Nat.{eq-zero-or-pos}
use native.Mathlib.Omega.{arith}
use mathlib.Core.Logic.{⊎_elim}
use native.Mathlib.Numerals.{add-one}
use mathlib.Core.List.{List, [], ◌∷◌, ◌++◌}
use mathlib.Core.Path.{◌≡◌, refl, ap, ◌∙◌}
use lib.Ieee.{Float}
use lib.ListN.{length, drop, get_or, drop_of_length-le}
use lib.Seq.{drop-cons}
use Rattle.stream.specs.Lines.{amplitude_line}
use Rattle.printing.specs.Printed.{state_lines}

state_bare : (i : ℕ) (xs : List Float) → state_lines i xs [] ≡ []
state_bare i [] = refl
state_bare i (x ∷ xs) = refl

module _ (xs ys : List Float) where
  -- those from a place on
  abbrev pub lines_from : ℕ → List ℕ
  lines_from i = state_lines i (drop i xs) (drop i ys)

  -- behind the last place of both there is none
  pub none_left : (i : ℕ) → min (length xs) (length ys) ≤ i → lines_from i ≡ []
  none_left i h =
      ⊎_elim
      (λ (few : length xs - i ≡ 0). ap (λ (zs : List Float). state_lines i zs (drop i ys)) (drop_of_length-le xs {i = i} (omega arith)))
      (λ (more : 0 < length xs - i). ap (state_lines i (drop i xs)) (drop_of_length-le ys {i = i} (omega arith)) ∙ state_bare i (drop i xs))
      (eq-zero-or-pos (length xs - i))

  pub line_next : (d : Float) (i : ℕ) → i < length xs → i < length ys → lines_from i ≡ amplitude_line i (get_or xs i d) (get_or ys i d) ++ lines_from (i + 1)
  line_next d i h k = rw (drop-cons xs i d h, drop-cons ys i d k) (rw add-one)
