-- Dots: sums of products. Rows: a stretch filled with 0.0.
pub mod Dots
mod Rows
