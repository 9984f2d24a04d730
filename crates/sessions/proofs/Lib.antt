-- Steps: a delivery, by what was read and where it stands. Agree: a contract allows one result.
pub mod Steps
pub mod Agree
