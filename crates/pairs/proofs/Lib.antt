-- The laws under the kernels, by subject.
pub mod Bits
pub mod Loop
pub mod Keys
pub mod Chosen
pub mod Exchanged
pub mod Gate
pub mod Swap
pub mod Flip
pub mod Spaced
pub mod Cuts
pub mod Lending
pub mod Turns
pub mod Whole
pub mod Blocks
pub mod Halves
pub mod Twice
