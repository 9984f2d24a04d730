-- Judged: a call, refused or taken.
mod Judged
