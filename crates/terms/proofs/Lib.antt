-- The laws behind the sum of F's two terms, each over a format or a width. Assumes nothing.

-- F of ordinary numbers as one sum
pub mod Ordinary
-- a term of a sum may be rounded to odd, and the smaller of two terms cut where they are far apart
pub mod AlikeLaws
pub mod AlikeSums
pub mod Aligned
