-- Crossings: the entries of a gate's matrix.
mod Crossings
