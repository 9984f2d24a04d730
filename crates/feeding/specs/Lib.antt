-- The form that takes bytes as they come, and the contracts of its calls.
pub mod Feeding
