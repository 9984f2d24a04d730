-- F(x,y,z) is F(y,x,z). Assumes nothing.
use Prim.Native.Nat.{◌*◌}
use mathlib.Core.Bool.{Bool, true, false}
use mathlib.Core.Path.{◌≡◌, refl, ap}
use native.Mathlib.Nat.{mul_comm}
use lib.Ieee.{Float, nan, inf, fin, Format, unlike, up, down, add, mul}
use Rattle.numbers.specs.Fused.{fused}

signs : (s t : Bool) → unlike s t ≡ unlike t s
signs true true = refl
signs true false = refl
signs false true = refl
signs false false = refl

product : (f : Format) (x y : Float) → mul f x y ≡ mul f y x
unfolding mul
product f nan nan = refl
product f nan (inf t) = refl
product f nan (fin t n d) = refl
product f (inf s) nan = refl
product f (inf s) (inf t) = rw (signs s t)
product f (inf s) (fin t n d) = rw (signs s t)
product f (fin s m e) nan = refl
product f (fin s m e) (inf t) = rw (signs s t)
product f (fin s m e) (fin t n d) = rw (signs s t, mul_comm (m * up e) (n * up d), mul_comm (down e) (down d))

pub swapped : (f : Format) (x y z : Float) → fused f x y z ≡ fused f y x z
unfolding fused
swapped f nan nan z = refl
swapped f nan (inf t) z = refl
swapped f nan (fin t n d) z = refl
swapped f (inf s) nan z = ap (λ (p : Float). add f p z) (product f (inf s) nan)
swapped f (inf s) (inf t) z = ap (λ (p : Float). add f p z) (product f (inf s) (inf t))
swapped f (inf s) (fin t n d) z = ap (λ (p : Float). add f p z) (product f (inf s) (fin t n d))
swapped f (fin s m e) nan z = refl
swapped f (fin s m e) (inf t) z = ap (λ (p : Float). add f p z) (product f (fin s m e) (inf t))
swapped f (fin s m e) (fin t n d) nan = refl
swapped f (fin s m e) (fin t n d) (inf u) = refl
swapped f (fin s m e) (fin t n d) (fin u p g) = rw (signs s t, mul_comm (m * up e) (n * up d), mul_comm (down e) (down d))
