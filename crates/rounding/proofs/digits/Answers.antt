-- `rounding::digits` meets its contract: the zeros before a number and its digits make up the limb. Assumes nothing.
use mathlib.Core.Path.{◌≡◌, sym, ◌∙◌}
use Prim.Native.Nat.{ℕ, ◌-◌, ◌<◌, ◌^◌}
use native.Mathlib.Omega.{arith}
use lib.Count.{count_leading_zeros, leading_length}
use lib.Ieee.{size}
use Rattle.numbers.proofs.Sizes.{size_of_length}
use Rattle.rounding.proofs.digits.Goals as goal

law : (x : ℕ) → x < 2 ^ 64 → 64 - count_leading_zeros 64 x ≡ size x
law x h =
    let l = leading_length 64 x h in
    let z : 64 - count_leading_zeros 64 x ≡ l.0 = omega (arith, l.1) in
    z ∙ sym (size_of_length x l.0 l.2 l.3)

pub returns : goal.returns
returns c = law c.args.x (omega arith)
