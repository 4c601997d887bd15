pub mod Recorded
pub mod Texts
pub mod Recording
pub mod Writing
pub mod Upgrading
