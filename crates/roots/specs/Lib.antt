-- The words of the contracts: what the steps of a root hand on. Assumes nothing.
pub mod Steps
