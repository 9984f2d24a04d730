-- The code's 0.0 is the book's. Assumes nothing.
use mathlib.Core.Path.{◌≡◌, refl}
use lib.Ieee.{binary64, of_bits}
use Rattle.book.specs.Gates.{nought, one}
use Rattle.book.specs.State.{amplitude}

pub nought_is : of_bits binary64 0 ≡ nought
unfolding of_bits
nought_is = refl

pub one_is : of_bits binary64 0x3FF0000000000000 ≡ one
unfolding of_bits
one_is = refl

pub zero_is : amplitude (of_bits binary64 0) (of_bits binary64 0) ≡ amplitude nought nought
unfolding of_bits
zero_is = refl
