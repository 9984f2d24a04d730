-- A row of A times a state: its sum with one inner index more. Assumes nothing.
use Prim.Native.Nat.{ℕ, ◌+◌}
use mathlib.Core.Path.{◌≡◌, ◌∙◌}
use Rattle.book.specs.Answers.{Buffers}
use Rattle.book.specs.Gates.{nought}
use Rattle.book.specs.Matrices.{add_product}
use Rattle.book.specs.State.{amplitude, at}
use Rattle.book.specs.declared.Amplitude.{Amplitude}
use Rattle.summands.proofs.Dots.{dot_none, dot_more}
use Rattle.dots.specs.Dots.{state_dot}

pub state_none : (a : Buffers) (from : ℕ) (b : Buffers) → amplitude nought nought ≡ state_dot a from b 0
unfolding state_dot
state_none a from b = dot_none _ _

pub state_more : (a : Buffers) (from : ℕ) (b : Buffers) (k : ℕ) {sum x y z : Amplitude} → sum ≡ state_dot a from b k → x ≡ at a (from + k) → y ≡ at b k
    → z ≡ add_product sum x y → z ≡ state_dot a from b (k + 1)
unfolding state_dot
state_more a from b k p q r e = e ∙ dot_more _ _ k p q r
