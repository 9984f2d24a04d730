-- Steps: where a record stands, test by test.
mod Steps
