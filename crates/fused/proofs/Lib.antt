-- The laws behind F. Assumes nothing.

-- the operands that need no rounding of their own
pub mod Special
