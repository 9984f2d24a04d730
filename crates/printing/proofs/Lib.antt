-- States: the A lines from a place on. Short: how long what is printed can be.
pub mod States
pub mod Short
