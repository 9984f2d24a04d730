-- What the writer of an upper half passes over.
pub mod Picks
