-- Records written and read.
pub mod RoundTrips
