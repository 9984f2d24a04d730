-- The entry of a matrix made from four amplitudes, as the code works it out: the target's bit of row and column, and the rest of both. Assumes nothing.
use Prim.Native.Nat.{ℕ, ◌+◌, ◌*◌, ◌/◌, ◌^◌, ◌≤◌}
use mathlib.Core.Path.{◌≡◌}
use native.Mathlib.Nat.{le_trans, mul-le-mul_right, mod-le, div-mul-le_self, mul-le-mul, le_of_lt}
use borrow.Author.Tests.{eq-eqb, ne_eqb}
use lib.Pow.{pow_mono}
use Rattle.book.proofs.Bits.{bit_lt}
use Rattle.book.specs.Gates.{nought, entry}
use Rattle.book.specs.Matrices.{crossing, without_target}
use Rattle.book.specs.State.{amplitude, bit}
use Rattle.book.specs.declared.Matrix.{Matrix}

pub bit_part_le : (t i : ℕ) → bit t i * 2 ^ t ≤ i
bit_part_le t i = le_trans (mul-le-mul_right (2 ^ t) (mod-le (i / 2 ^ t) 2)) (div-mul-le_self i (2 ^ t))

pub bit_part_lt : (t i : ℕ) → t ≤ 6 → bit t i * 2 ^ t ≤ 128
bit_part_lt t i l = mul-le-mul {n₁ = bit t i} {n₂ = 2} (le_of_lt (bit_lt t i)) (pow_mono l)

pub off_crossing : (m : Matrix) (t row column : ℕ) → (without_target t row ≡ without_target t column → ⊥) → amplitude nought nought ≡ crossing m t row column
off_crossing m t row column n = rw (ne_eqb (without_target t row) (without_target t column) n)

pub on_crossing : (m : Matrix) (t row column : ℕ) → without_target t row ≡ without_target t column
    → entry m (2 * bit t row + bit t column) ≡ crossing m t row column
on_crossing m t row column e = rw (eq-eqb (without_target t row) (without_target t column) e)
