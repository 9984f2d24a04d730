-- Reading: eight bytes are enough for a header. Agree: any two results that its contract allows are one.
pub mod Reading
pub mod Agree
