-- The laws behind the tests of an operand and its fields. Assumes nothing.

-- x - x tells whether x is finite
pub mod Finite
-- the other tests of a float, and an ordinary number's fields
pub mod Floats
