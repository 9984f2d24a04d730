-- Judged: SWAP and the bit flip, judged.
pub mod Judged
-- Copies: a list copied over another of its length.
pub mod Copies
