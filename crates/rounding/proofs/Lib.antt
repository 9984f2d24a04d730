-- The laws of rounding, each over a format. Assumes nothing.

-- what rounding to odd keeps of a number, and that this is all that a later rounding sees
pub mod Alike
pub mod RoundToOdd
