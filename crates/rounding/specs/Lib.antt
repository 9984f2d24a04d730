-- The words of the contracts: rounding to odd, and the working unit. Assumes nothing.
pub mod Odd
pub mod Working
