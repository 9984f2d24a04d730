-- The code's `1 << n`, at any width, and that it grows with n. Assumes nothing.
use Prim.Native.Nat.{ℕ, ◌*◌, ◌%◌, ◌^◌, ◌≤◌, ◌<◌}
use mathlib.Core.Path.{◌≡◌}
use native.Mathlib.Nat.{one-mul, mod-eq_of_lt}
use native.Mathlib.Omega.{arith}
use lib.Pow.{pow-lt, pow_mono}

pub shl_one : (width n : ℕ) → n < width → 1 * 2 ^ n % 2 ^ width ≡ 2 ^ n
shl_one width n h = rw (one-mul (2 ^ n)) (mod-eq_of_lt (pow-lt h))

-- the code's `1 << n` of a usize
abbrev pub shl : ℕ → ℕ
shl n = 1 * 2 ^ n % 2 ^ 64

pub shl_is : (n : ℕ) → n ≤ 24 → shl n ≡ 2 ^ n
shl_is n h = shl_one 64 n (omega arith)

pub pow_le : (n k : ℕ) → n ≤ k → 2 ^ n ≤ 2 ^ k
pow_le n k h = pow_mono h
