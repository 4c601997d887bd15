pub mod LineBytes
pub mod RunBytes
pub mod Runs
pub mod Logs
pub mod Feeding
pub mod Stepping
pub mod Writing
pub mod Upgrading
