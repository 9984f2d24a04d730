-- What a list of tests answers, and what it lets pass.
pub mod Judging
