-- What P makes of s1.
pub mod Uppers
