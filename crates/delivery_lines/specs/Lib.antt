-- What the program prints of a delivery.
pub mod Deliveries
