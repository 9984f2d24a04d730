-- Records as flat lists of numbers.
pub mod Numbers
