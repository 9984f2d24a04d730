-- What is handed to write, of what read handed over.
pub mod Turns
