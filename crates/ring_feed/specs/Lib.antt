pub mod Outlets
pub mod Streams
