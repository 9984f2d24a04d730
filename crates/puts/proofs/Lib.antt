-- Puts: words put one behind the other.
pub mod Puts
