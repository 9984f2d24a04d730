-- The rule that a value of Rule names.
pub mod Rules
