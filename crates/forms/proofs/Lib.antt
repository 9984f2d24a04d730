-- Single: a sweep of one pair.
pub mod Single
