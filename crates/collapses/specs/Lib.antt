-- What a collapse makes of each half.
pub mod Halves
