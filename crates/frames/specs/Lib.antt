-- What the program reads behind the header: a frame, and the frames of a stream.
pub mod Frames
pub mod Streams
