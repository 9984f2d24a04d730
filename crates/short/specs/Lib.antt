-- The words of the contracts. Assumes nothing.
pub mod Steps
