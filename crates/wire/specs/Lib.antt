-- What the laws on bytes speak of, beside the book's definitions.
pub mod Bytes
