-- What a field that stands at the start of bytes is.
pub mod Fields
