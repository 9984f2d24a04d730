-- Kept: what a number and 97 bytes stand for, and what bytes that begin a frame tell.
pub mod Kept
