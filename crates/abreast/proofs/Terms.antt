-- What may be added to a product: the product of two numbers that are 2 at most in size. So the sides around an amplitude's two F, where they meet, are what
-- (k,s) makes of it. Assumes nothing.
use Prim.Native.Nat.{◌≤◌}
use mathlib.Core.Path.{◌≡◌, ap₂}
use native.Mathlib.Omega.{arith}
use lib.Ieee.{Float, Format, binary32, binary64, emax, neg, mul}
use Rattle.book.specs.Gates.{F, −◌, ◌⊗◌}
use Rattle.book.specs.State.{amplitude}
use Rattle.book.specs.declared.Amplitude.{Amplitude}
use Rattle.exact.specs.Steps.{Under, Halved}
use Rattle.exact.specs.Window.{reach}
use Rattle.short.specs.Steps.{Modest, Meet}
use Rattle.short.specs.declared.Sides.{Sides}
use Rattle.short.proofs.Unders.{under_more, under_neg, under_mul}
use Rattle.abreast.specs.Split.{times}

room : (f : Format) → (2 ≤ emax f) × (2 ≤ reach f)
room binary32 = (omega arith, omega arith)
room binary64 = (omega arith, omega arith)

pub product : (f : Format) (x s : Float) → Under f 1 x → Under f 1 s → Under f (reach f) (mul f x s)
product f x s u v = under_more f 2 (reach f) (mul f x s) (room f).1 (under_mul f 1 1 x s (room f).0 u v)

pub product_neg : (f : Format) (x s : Float) → Under f 1 x → Under f 1 s → Under f (reach f) (mul f (neg x) s)
product_neg f x s u v = product f (neg x) s (under_neg f 1 x u) v

-- what the tests say of (k,s), k's upper part, and an amplitude
pub record Told (k s half : Float) (z : Amplitude) : Type 0 where
  pub re : Modest binary64 z.re
  pub im : Modest binary64 z.im
  pub upper : Halved binary64 k half
  pub below : Under binary64 1 s

-- what `from_both_sides` says of its r
abbrev pub Around : Sides → Float → Float → Float → Type 0
Around r x y z = Meet r → Under binary64 (reach binary64) z → r.left ≡ F x y z

pub multiplied : {k s half : Float} {z : Amplitude} (re im : Sides) → Told k s half z → Meet re → Meet im
    → Around re z.re k ((− z.im) ⊗ s) → Around im z.im k (z.re ⊗ s) → amplitude re.left im.left ≡ times k s z
multiplied re im t m n e f =
    ap₂ amplitude (e m (product_neg binary64 _ _ t.im.under t.below)) (f n (product binary64 _ _ t.re.under t.below))
