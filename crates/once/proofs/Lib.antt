-- Runs: what comes to the book's run is exactly once. Loop: the laws of a loop that delivers. Instance: the hypotheses of demand 3 can be met.
pub mod Runs
pub mod Loop
pub mod Instance
