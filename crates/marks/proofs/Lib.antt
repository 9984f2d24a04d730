-- Steps: the mark over what is left, from one byte to the next.
pub mod Steps
