-- The session in eight words.
pub mod Kept
