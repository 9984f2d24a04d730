-- The stretches of places that a sum goes over.
pub mod Stretches
