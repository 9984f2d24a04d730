-- How an answer stands in one number.
pub mod Told
