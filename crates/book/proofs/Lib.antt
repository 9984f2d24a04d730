-- Examples: the twelve of 01. Found: the longest start of a list, one delivery at a time. Lengths: a gate keeps the buffers' length.
-- ExactlyOnce: demand 3. Bits: the bits of an index. Tables: buffers and the states that they hold.
-- Refusals: no test applied. Twice: X and SWAP undo themselves. Agree: a contract allows one result. Calls: a call that is refused, and one that is taken.
-- Gives: what a call gave or denied. Halves: a measurement looks at the half of its outcome, and refuses one of zeros.
pub mod Examples
pub mod Found
pub mod Lengths
pub mod ExactlyOnce
pub mod Bits
pub mod Tables
pub mod Places
pub mod Refusals
pub mod Twice
pub mod Agree
pub mod Calls
pub mod Gives
pub mod Zero
pub mod Halves
