-- The pairs of places that a loop goes over, one by one and in runs; and what a gate on pairs does.
pub mod Pairs
pub mod Runs
pub mod Gates
