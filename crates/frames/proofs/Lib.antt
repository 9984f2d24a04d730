-- Reading: bytes by the tests of the code. Nexts: what bytes begin with. Streams: a stream cut anywhere.
pub mod Reading
pub mod Nexts
pub mod Streams
