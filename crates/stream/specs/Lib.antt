-- What the program prints beside its deliveries.
pub mod Lines
