-- Which gates the slow engine runs, and what it then does.
pub mod Runs
