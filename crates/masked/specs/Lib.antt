-- What the field of the mask holds.
pub mod Masks
