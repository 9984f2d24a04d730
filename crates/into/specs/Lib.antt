-- A gate from one state into another.
pub mod Into
