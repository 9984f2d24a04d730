-- Stored: bytes stored piece after piece.
pub mod Stored
