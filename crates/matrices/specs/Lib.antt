-- What test 1 finds, and what the loops of matrix calls ask and leave.
pub mod Sided
pub mod Filled
