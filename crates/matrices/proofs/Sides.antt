-- The side of a matrix, 2^n at most 64: the square of it, and the start of a row, all within a usize. Assumes nothing.
use Prim.Native.Nat.{ℕ, ◌+◌, ◌*◌, ◌^◌, ◌≤◌, ◌<◌}
use mathlib.Core.Path.{◌≡◌, sym}
use native.Mathlib.Nat.{suc-mul, mul-le-mul}
use native.Mathlib.Numerals.{add-one}
use native.Mathlib.Omega.{arith}

pub square_le : (side : ℕ) → side ≤ 64 → side * side ≤ 4096
square_le side l = mul-le-mul {n₁ = side} {m₁ = side} l l

pub square_fits : (side : ℕ) → side ≤ 64 → side * side < 2 ^ 64
square_fits side l = omega (arith, square_le side l)

pub next_row : (row side : ℕ) → row * side + side ≡ (row + 1) * side
next_row row side = sym (rw add-one (suc-mul row side))

-- the rows before the end are within the matrix
pub row_end : (row side : ℕ) → row < side → row * side + side ≤ side * side
row_end row side l = rw (next_row row side) (mul-le-mul {n₁ = row + 1} {m₁ = side} (omega arith) (omega arith))

-- a row's start fits a usize
pub start_fits : (row side : ℕ) → row < side → side ≤ 64 → row * side < 2 ^ 64
start_fits row side l m = omega (arith, row_end row side l, square_le side m)
