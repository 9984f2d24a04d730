-- `words::add_hex` stores as many digits as are asked: no more are needed, and no fewer come. Assumes nothing.
use Prim.Native.Nat.{ℕ, ◌^◌, ◌≤◌, ◌<◌, min, max}
use native.Mathlib.Omega.{arith}
use mathlib.Core.Path.{◌≡◌, ap, ◌∙◌}
use Rattle.io.specs.Digits.{last_digits, IsDigitCount}
use Rattle.words.proofs.Writing.{these, few}
use Rattle.words.proofs.add_hex.Goals as goal

as_many : (width n k : ℕ) → 1 ≤ width → width ≤ 16 → n < 16 ^ width → IsDigitCount 16 (min (max width 1) 16) n k → k ≡ width
as_many width n k some most small d =
    let enough = few 16 (min (max width 1) 16) width k n (omega arith) (omega arith) small d.2 in
    omega (arith, enough, d.0)

pub add-requires : goal.add-requires
add-requires c =
    let same = as_many c.args.width c.args.n c.hex-k.result c.requires.0 c.requires.1 c.requires.2 c.hex-k.ensures.len in
    omega (arith, same, c.hex-k.ensures.in_bounds.1)

pub returns : goal.returns
returns c =
    let a = c.args in
    let d = c.hex-k.ensures in
    let is = as_many a.width a.n c.hex-k.result c.requires.0 c.requires.1 c.requires.2 d.len in
    these (last_digits 16 a.width a.n) a.width (d.digits ∙ ap (λ (k : ℕ). last_digits 16 k a.n) is) (omega (arith, is, d.in_bounds.1)) c.add.ensures
