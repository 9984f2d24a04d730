-- Words and where they stand.
pub mod Text
pub mod Words
