-- Back: a record comes back from its numbers.
pub mod Back
