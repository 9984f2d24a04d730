-- Refusals: tests 1 and 2 from their numbers.
pub mod Refusals
