-- How far a buffer holds words.
pub mod Put
