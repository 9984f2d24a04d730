-- Writing: words one behind the other, and a line of them.
pub mod Writing
