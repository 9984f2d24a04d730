-- The laws behind the short way, each over a format. Assumes nothing.

-- what the code's tests tell of a number
pub mod Tests
-- numbers that are not large: a power of two that no step passes
pub mod Unders
-- what a nearest count tells of the one that it is near to
pub mod Closest
-- where what a sum lacks is not held, the sum is much larger
pub mod Far
-- two sums of one signed count
pub mod OneSum
-- what lies between two sums that are one number
pub mod Squeeze
-- a small part of s, and a step of it from v to either side
pub mod Hair
pub mod Aside
-- the answer
pub mod Answer
