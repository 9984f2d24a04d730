-- F where an operand is not an ordinary number: the machine's own operations give it. Assumes nothing.
use mathlib.Core.Path.{◌≡◌, refl}
use mathlib.Core.Logic.{◌⊎◌, inl, inr}
use mathlib.Core.Bool.{not}
use lib.Dec.{T}
use lib.Ieee.{Float, nan, inf, fin, Format, add, mul}
use lib.Ieee.Scale.{finite}
use Rattle.numbers.specs.Fused.{fused}
use Rattle.numbers.proofs.Values as Values
use Rattle.operands.specs.Operands.{ordinary}
use Rattle.operands.proofs.Floats.{none, some}

pub special_factor : (f : Format) (x y z : Float) → T (not (ordinary x)) ⊎ T (not (ordinary y)) → add f (mul f x y) z ≡ fused f x y z
special_factor f nan y z k = unfold add mul fused in refl
special_factor f (inf s) y z k = unfold fused in refl
special_factor f (fin s m e) nan z k = unfold add mul fused in refl
special_factor f (fin s m e) (inf t) z k = unfold fused in refl
special_factor f (fin s m e) (fin t n d) z (inl k) = Values.zero_product f s t m e n d z (inl (none m k))
special_factor f (fin s m e) (fin t n d) z (inr k) = Values.zero_product f s t m e n d z (inr (none n k))

pub zero_term : (f : Format) (x y z : Float) → T (ordinary x) → T (ordinary y) → T (finite z) → T (not (ordinary z)) → mul f x y ≡ fused f x y z
zero_term f nan y z o p q r = absurd o
zero_term f (inf s) y z o p q r = absurd o
zero_term f (fin s m e) nan z o p q r = absurd p
zero_term f (fin s m e) (inf t) z o p q r = absurd p
zero_term f (fin s m e) (fin t n d) nan o p q r = absurd q
zero_term f (fin s m e) (fin t n d) (inf u) o p q r = absurd q
zero_term f (fin s m e) (fin t n d) (fin u b g) o p q r = Values.zero_term f s t u m e n d b g (some m o) (some n p) (none b r)

pub special_term : (f : Format) (x y z : Float) → T (ordinary x) → T (ordinary y) → T (not (finite z)) → z ≡ fused f x y z
special_term f nan y z o p q = absurd o
special_term f (inf s) y z o p q = absurd o
special_term f (fin s m e) nan z o p q = absurd p
special_term f (fin s m e) (inf t) z o p q = absurd p
special_term f (fin s m e) (fin t n d) nan o p q = unfold fused in refl
special_term f (fin s m e) (fin t n d) (inf u) o p q = unfold fused in refl
special_term f (fin s m e) (fin t n d) (fin u b g) o p q = absurd q
