-- What the program prints of its input.
pub mod Program
