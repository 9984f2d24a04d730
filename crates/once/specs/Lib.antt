-- What deliveries one after the other answer, and exactly-once as the contract of a function that makes them.
pub mod Answered
pub mod AllOnce
