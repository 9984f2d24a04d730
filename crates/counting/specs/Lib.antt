-- What an answer makes of the count, of the value that is kept and of the mark.
pub mod Counts
