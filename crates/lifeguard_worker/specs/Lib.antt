pub mod Rows
pub mod Workers
pub mod Sound
pub mod Turns
