-- The laws that the reader, the writer and the round trips share.
pub mod Numbers
pub mod Floats
pub mod Fields
pub mod After
