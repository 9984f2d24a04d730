-- Bytes stored in a list.
pub mod Stores
