-- Answers as numbers, and the contracts of the calls.
pub mod Tells
