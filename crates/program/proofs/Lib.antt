-- Pieces: the laws of a loop that prints a piece, and pieces one after the other. Fresh: what a run begins with. Fits: what a buffer has room for.
-- Agree: each call has one answer.
pub mod Pieces
pub mod Fresh
pub mod Fits
pub mod Agree
