pub mod Adding
pub mod Telling
pub mod Placed
pub mod Counting
pub mod RunLogs
