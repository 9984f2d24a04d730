-- What the writer of an upper half makes of a place.
pub mod Halves
