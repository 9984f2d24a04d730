-- What is kept between two pieces, and the contract of gathering.
pub mod Gathering
