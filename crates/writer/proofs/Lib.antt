-- What the writer's proofs share.
mod Whole
