-- Sums of products: none yet, and one inner index more. Assumes nothing.
use Prim.Native.Nat.{ℕ, ◌+◌}
use mathlib.Core.Path.{◌≡◌, refl}
use native.Mathlib.Numerals.{add-one}
use Rattle.book.specs.Gates.{nought}
use Rattle.book.specs.Matrices.{add_product, dot}
use Rattle.book.specs.State.{State, amplitude}
use Rattle.book.specs.declared.Amplitude.{Amplitude}

pub dot_none : (a b : State) → amplitude nought nought ≡ dot a b 0
unfolding dot
dot_none a b = refl

pub dot_more : (a b : State) (k : ℕ) {sum x y : Amplitude} → sum ≡ dot a b k → x ≡ a k → y ≡ b k → add_product sum x y ≡ dot a b (k + 1)
unfolding dot
dot_more a b k p q r = rw (add-one, p, q, r)
