-- What a standing means.
pub mod Stands
