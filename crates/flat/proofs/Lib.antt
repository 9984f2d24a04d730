-- Agree: a contract allows one result.
pub mod Agree
