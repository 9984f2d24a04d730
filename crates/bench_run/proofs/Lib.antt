-- The laws of the program's loop.
pub mod Going
