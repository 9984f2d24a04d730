-- `rounding::odd::shift_to_odd` meets its contract: x - (q << n) is the remainder, and a shift by 64 or more leaves nothing but the rest. Assumes nothing.
use mathlib.Core.Path.{◌≡◌, sym, ap, ap₂, ◌∙◌}
use Prim.Native.Nat.{ℕ, ◌-◌, ◌*◌, ◌/◌, ◌%◌, ◌^◌, ◌≤◌, ◌<◌}
use native.Mathlib.Nat.{lt_of_le_of_lt, lt_of_lt_of_le, div-mul-le_self, mod-eq_of_lt, div-eq_of_lt, mod-eq-sub-div-mul}
use native.Mathlib.Omega.{arith}
use lib.Pow.{pow_mono}
use Rattle.rounding.specs.Odd.{to_odd, cut_to_odd}
use Rattle.rounding.proofs.odd.shift_to_odd.Goals as goal

rest : (x n : ℕ) → x < 2 ^ 64 → x - (x / 2 ^ n * 2 ^ n) % 2 ^ 64 ≡ x % 2 ^ n
rest x n h = ap (λ (z : ℕ). x - z) (mod-eq_of_lt (lt_of_le_of_lt (div-mul-le_self x (2 ^ n)) h)) ∙ sym (mod-eq-sub-div-mul x (2 ^ n))

gone : (x n : ℕ) → x < 2 ^ 64 → 64 ≤ n → to_odd 0 x ≡ to_odd (x / 2 ^ n) (x % 2 ^ n)
gone x n h k = let l : x < 2 ^ n = lt_of_lt_of_le h (pow_mono k) in sym (ap₂ to_odd (div-eq_of_lt l) (mod-eq_of_lt l))

pub returns-then-n-lt64 : goal.returns-then-n-lt64
unfolding cut_to_odd
returns-then-n-lt64 c = let x = c.args.x in
    let n = c.args.n in
    c.to_odd.ensures ∙ ap (to_odd (x / 2 ^ n)) (rest x n (omega arith))

pub returns-else-n-lt64 : goal.returns-else-n-lt64
unfolding cut_to_odd
returns-else-n-lt64 c = c.to_odd-else-n-lt64.ensures ∙ gone c.args.x c.args.n (omega arith) (omega arith)
