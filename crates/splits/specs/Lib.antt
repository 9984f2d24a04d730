-- What U's rule asks of upper parts, and that it is known in one way.
pub mod Splits
pub mod Unique
