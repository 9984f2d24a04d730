-- The proofs of specs/RoundTrips.
pub mod ThereAndBack
pub mod BackAndThere
pub mod Taken
pub mod Sizes
pub mod Agree
