-- The laws under F of two.
pub mod Terms
pub mod Swapped
