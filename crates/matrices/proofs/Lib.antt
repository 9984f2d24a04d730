-- Fills: stretches of places filled one after the other. Sides: numbers up to a matrix's. Judged: the tests that every matrix call begins with.
pub mod Fills
pub mod Sides
pub mod Judged
