-- The state at the start.
pub mod First
