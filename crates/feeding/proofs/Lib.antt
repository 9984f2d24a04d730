-- Steps: a step of the stream as the code makes it. Loop: the laws of loops that take a piece, and pieces. Numbers: answers in a list.
-- Agree: each call has one answer.
mod Steps
mod Numbers
pub mod Loop
pub mod Agree
