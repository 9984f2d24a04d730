-- What an upper part says of its multiplier, and that it says so in one way.
pub mod Split
pub mod Unique
