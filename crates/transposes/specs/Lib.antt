-- The words of the loop's contract.
pub mod Mirrored
