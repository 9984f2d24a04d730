-- Values of F and the root that the definitions must give, worked out by antt from the bits of the operands: each is an answer known from outside.
-- Assumes nothing.
use Rattle.std.specs.Prelude.{◌≡◌, refl, ℕ, true, false, pos, negsuc}
use Rattle.std.specs.Float.{fin, binary64}
use Rattle.std.specs.Float.Ieee.{of_bits, to_bits}
use Rattle.numbers.specs.Fused.{fused, root}
use Rattle.numbers.specs.Nearest.{distance, twice, exact, divisor}

-- the bits of F and of the root, from those of the operands
unfoldable pub fused_bits : ℕ → ℕ → ℕ → ℕ
fused_bits x y z = to_bits binary64 (fused binary64 (of_bits binary64 x) (of_bits binary64 y) (of_bits binary64 z))

unfoldable pub root_bits : ℕ → ℕ
root_bits x = to_bits binary64 (root binary64 (of_bits binary64 x))

-- F(1+2^-52, 1-2^-52, -1) = -2^-104
pub keeps_the_last_digits : fused_bits 0x3ff0000000000001 0x3feffffffffffffe 0xbff0000000000000 ≡ 0xb970000000000000
unfolding fused_bits fused of_bits to_bits
keeps_the_last_digits = refl

-- F(2^-1074, 0.5, 0) = 0: a tie, to the even one
pub tie_to_zero : fused_bits 1 0x3fe0000000000000 0 ≡ 0
unfolding fused_bits fused of_bits to_bits
tie_to_zero = refl

-- F(2^-1074, 0.75, 0) = 2^-1074
pub up_to_the_smallest : fused_bits 1 0x3fe8000000000000 0 ≡ 1
unfolding fused_bits fused of_bits to_bits
up_to_the_smallest = refl

-- root(2) has bits 3FF6A09E667F3BCD
pub root_of_two : root_bits 0x4000000000000000 ≡ 0x3ff6a09e667f3bcd
unfolding root_bits root of_bits to_bits
root_of_two = refl

-- ---- the words of `Nearest`, at small numbers
-- 3/2 lies 1/2 from 1 and 5/2 from -1, counted in halves
pub distance_to_one : distance (pos 3) 2 (fin false 1 (pos 0)) ≡ 1
distance_to_one = refl

pub distance_to_minus_one : distance (pos 3) 2 (fin true 1 (pos 0)) ≡ 5
distance_to_minus_one = refl

-- 1.5 times 2, less 0.5, is 10/4
pub exact_sum : exact (fin false 3 (negsuc 0)) (fin false 1 (pos 1)) (fin true 1 (negsuc 0)) ≡ pos 10
exact_sum = refl

pub exact_divisor : divisor (fin false 3 (negsuc 0)) (fin false 1 (pos 1)) (fin true 1 (negsuc 0)) ≡ 4
exact_divisor = refl

-- twice the middle of 3 and -1 is 2, and that of 1 and -3 is below zero
pub middle_above : twice (fin false 3 (pos 0)) (fin true 1 (pos 0)) ≡ 2
middle_above = refl

pub middle_below : twice (fin false 1 (pos 0)) (fin true 3 (pos 0)) ≡ 0
middle_below = refl
