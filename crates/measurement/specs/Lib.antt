-- What follows a measurement that is to be set back.
pub mod Resets
