pub mod Steps
pub mod Streams
pub mod Bodies
pub mod Frames
pub mod Collecting
pub mod Readers
