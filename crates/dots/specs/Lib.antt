-- The words of the loops' contracts.
pub mod Dots
