-- Sums: the rising sum of squares, and the probability.
pub mod Sums
