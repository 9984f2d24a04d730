-- What the slow engine asks of its buffers.
pub mod Slow
