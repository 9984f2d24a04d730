-- The gates that have a rule.
pub mod Rows
