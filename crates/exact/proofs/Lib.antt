-- The laws behind the two errors, each over a format. Assumes nothing.

-- sums and products of signed counts: what they round, and that they are exact where the format holds the count
pub mod SignedLaws
-- a count rounded: the nearest that the format holds, and a multiple of the place where it is cut
pub mod Nearest
-- a finite number as its bits have it
pub mod Written
-- what a sum loses (Knuth), and a product (Dekker)
pub mod SumError
pub mod ProductError
-- a number's upper part, from its bits
pub mod UpperPart
