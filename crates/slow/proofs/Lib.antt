-- Reach: what a deed reads is there.
pub mod Reach
