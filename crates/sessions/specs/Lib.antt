-- What the types of a session mean, and the contract of a delivery.
pub mod Deliveries
