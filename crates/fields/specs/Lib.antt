-- What a field that was read holds.
pub mod Fields
