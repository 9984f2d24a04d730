-- What the writer's own functions store.
pub mod Heads
