-- Stretches: stretches of places remade, one behind the other.
pub mod Stretches
