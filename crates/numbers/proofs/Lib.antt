-- The laws behind F and the root, and the theorems that they are IEEE 754's. All are over any format. Assumes nothing.

-- whole numbers: comparing, counting digits, signs, and rounding among the numbers of so many digits
pub mod Orders
pub mod Signs
pub mod Sizes
pub mod Integers
pub mod Grid
-- F and the root see only the values of their operands
pub mod Sums
pub mod Values
pub mod Roots
-- a format's values, in bits and as counts of its smallest value
pub mod BitsOf
pub mod Counts
-- the logic has one NaN
pub mod Nan
-- the theorems: the rounding is to the nearest, so is the root's, and no two values are nearest
pub mod Rounding
pub mod RootRounding
pub mod RootNearest
pub mod Only
pub mod Theorems
