-- Records from flat lists of numbers.
pub mod Records
