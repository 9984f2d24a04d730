-- Sizes: an answer as the size, whose refusal is said before the reply, and no value.
pub mod Sizes
