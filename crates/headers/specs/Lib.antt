-- The header of the program's input.
pub mod Headers
