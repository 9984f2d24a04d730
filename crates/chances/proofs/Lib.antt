-- Tests: 6 and 7.
mod Tests
