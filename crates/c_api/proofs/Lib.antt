-- Plain: a call's number is its outcome's. Kept: the words that the caller keeps behind a delivery and behind a piece.
pub mod Plain
pub mod Kept
