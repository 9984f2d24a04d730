-- Document 01 as definitions, in its order.
pub mod Answers
pub mod Lent
pub mod State
pub mod Gates
pub mod Kernels
pub mod Measuring
pub mod Calls
pub mod Matrices
pub mod Records
pub mod Sessions
pub mod Examples
pub mod ExactlyOnce
pub mod Twice
