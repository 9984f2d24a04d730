-- The contracts of reading and writing a record's numbers.
pub mod Spelling
