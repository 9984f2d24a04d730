-- Over: into a second state and back is in place.
pub mod Over
