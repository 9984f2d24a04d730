-- The laws behind the root, over a format. Assumes nothing.

-- the digits of a root, one after the other
pub mod Digits
-- a root with four digits more than are kept, rounded to odd, is rounded as the root is
pub mod Rooting
-- the operands that need no digits
pub mod Special
