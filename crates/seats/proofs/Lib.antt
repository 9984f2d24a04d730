-- Refusals: the tests of a seat from their numbers.
pub mod Refusals
